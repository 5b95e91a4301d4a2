-- What reductions and acceptance leave of a stack whose trees stand.
use Rattle.std.proofs.Common.{◌≡◌, ◌∙◌, sym, ap, refl, subst, ℕ, ◌+◌, ◌-◌, ◌≤◌, true≢false, List, [], ◌∷◌, ◌++◌, append_assoc, append-nil, length, reverse, take, drop, Option, Some, None, unwrap_or, option_map, arith}
use Rattle.std.proofs.lemmas.List.{drop-drop, reverse-append, take_all}
use lib.IntN.{ℤ, ◌+ℤ◌}
use Rattle.ts_base.specs.Bytes.{Bytes}
use Rattle.ts_core.specs.declared.flat.FlatGrammar.{FlatGrammar}
use Rattle.ts_core.specs.declared.flat.Production.{Production}
use Rattle.ts_core.specs.declared.symbol.Symbol.{Symbol}
use Rattle.spec_grammar.specs.Symbols.{production_at}
use Rattle.spec_tables.specs.Fit.{Fit}
use Rattle.spec_trees.specs.declared.tree.Tree.{Tree}
use Rattle.spec_trees.specs.declared.tree.Element.{Element}
use Rattle.spec_trees.specs.declared.tree.Tree.TheOpen.{Tree-F}
use Rattle.spec_trees.specs.declared.tree.Tree.TheViews.{out-roll-Tree}
use Rattle.spec_trees.specs.Trees.{symbol_of, production_of, state_of, node_extent, elements_of, children_of, total_of, all_totals, span_of, all_spans, tree_depth}
use Rattle.spec_trees.specs.Made.{node_over, element, Form, of_rule, of_first, of_next, form_of, made_by, left_of, value_of, reduced, accepted, filling, step_symbols, most_depth}
use Rattle.spec_runs.specs.Configurations.{stack_symbols, AreValidTokens, AreExtras}
use Rattle.spec_reuse.specs.Places.{IsIn, here, inside, later, lead_of}
use Rattle.spec_forced.specs.Forced.{Stands, MakesNode}
use Rattle.spec_forced.specs.Laws.{ForcedLaws}
use Rattle.spec_forced.specs.Sound.{States, IsStateAfter, StandsBehindForState, ElementStands, LaterStand, IsSoundNode, AllSound, IsSound, EachHasState, StandOnStack, IsWholeSoFar}
use Rattle.spec_forced.specs.Behind.{StandsBehind}
use Rattle.spec_forced.proofs.StackLemmas.{filling_append, filling_turned, filling_extras, filling_filled, spans_append, spans_turned}
use Rattle.spec_forced.proofs.SpanLemmas.{over_layer, Over, over_says, kids_by, made_says, kids_spans}
use Rattle.spec_forced.proofs.ForcedLemmas.{forced_stands}
use Rattle.spec_forced.proofs.NodeLemmas.{made_forced}
use Rattle.spec_forced.proofs.LeafLemmas.{extra_stays}
use Rattle.spec_forced.proofs.BehindLemmas.{first_is, made_behind, behind_told}
use Rattle.spec_forced.proofs.ElementLemmas.{later_more, later_state}
use Rattle.spec_forced.proofs.SoundLemmas.{stands_for, sound_one, sound_inside, sound_append, sound_tail, stack_lower, sound_in_turn}

-- ---- nodes in lists

in_left : (xs : List Tree) (place : ℕ) (u : Tree) (at : ℕ) → IsIn xs place u at → (ys : List Tree) → IsIn (xs ++ ys) place u at
in_left _ _ _ _ (here t ts place) ys = here t (ts ++ ys) place
in_left _ _ _ _ (inside t ts place u at h) ys = inside t (ts ++ ys) place u at h
in_left _ _ _ _ (later t ts place u at h) ys = later t (ts ++ ys) place u at (in_left ts (place + span_of t) u at h ys)

in_right : (xs ys : List Tree) (place : ℕ) (u : Tree) (at : ℕ) → IsIn ys (place + all_spans xs) u at → IsIn (xs ++ ys) place u at
in_right [] ys place u at h = subst (λ (n : ℕ). IsIn ys n u at) (let e : place + 0 ≡ place = omega arith in e) h
in_right (x ∷ xs) ys place u at h =
    later x (xs ++ ys) place u at
    (in_right xs ys (place + span_of x) u at (subst (λ (n : ℕ). IsIn ys n u at) (let e : place + all_spans (x ∷ xs) ≡ place + span_of x + all_spans xs = omega arith in e) h))

-- ---- extents and states of nodes

-- what was given to a node over children
pub record Given (extent : ℕ) (state : Option ℕ) (es : List Element) (t : Tree) : Type 0 where
  pub extent_is : node_extent t ≡ extent
  pub state_is : state_of t ≡ state
  pub elements_are : elements_of t ≡ es

pub over_given : (symbol : ℕ) (production : Option ℕ) (dynamic : ℤ) (extent : ℕ) (state : Option ℕ) (es : List Element) (ks : List Tree) → Given extent state es (node_over symbol production dynamic extent state es ks)
over_given symbol production dynamic extent state es ks =
    let o = out-roll-Tree (over_layer symbol production dynamic extent state es ks) in
    record {
      extent_is = ap (λ (x : Tree-F Tree). x.extent) o;
      state_is = ap (λ (x : Tree-F Tree). x.state) o;
      elements_are = ap (λ (x : Tree-F Tree). x.elements) o;
    }

-- the elements that a node of a form has
abbrev pub elements_by : Form → ℤ → ℕ → List Tree → List Element
elements_by of_rule value extent ts = []
elements_by (of_first a) value extent ts = element a (length ts) value extent ∷ []
elements_by (of_next a) value extent [] = []
elements_by (of_next a) value extent (t ∷ ts) = elements_of t ++ element a (length ts) value (extent - span_of t) ∷ []

made_given : (f : Form) (symbol number : ℕ) (value : ℤ) (extent : ℕ) (state : Option ℕ) (ts : List Tree) → Given extent state (elements_by f value extent ts) (made_by f symbol number value extent state ts)
made_given of_rule symbol number value extent state ts = over_given symbol (Some number) (value +ℤ all_totals ts) extent state [] ts
made_given (of_first a) symbol number value extent state ts = over_given symbol None (value +ℤ all_totals ts) extent state (element a (length ts) value extent ∷ []) ts
made_given (of_next a) symbol number value extent state [] = over_given symbol None value extent state [] []
made_given (of_next a) symbol number value extent state (t ∷ ts) =
    over_given symbol None (value +ℤ (total_of t +ℤ all_totals ts)) extent state (elements_of t ++ element a (length ts) value (extent - span_of t) ∷ []) (children_of t ++ ts)

module _ (g : FlatGrammar) (states : States) (text : Bytes) where
  pub sound_left : (xs ys : List Tree) (place : ℕ) → AllSound g states text (xs ++ ys) place → AllSound g states text xs place
  sound_left xs ys place all u at state h = all u at state (in_left xs place u at h ys)

  pub sound_right : (xs ys : List Tree) (place : ℕ) → AllSound g states text (xs ++ ys) place → AllSound g states text ys (place + all_spans xs)
  sound_right xs ys place all u at state h = all u at state (in_right xs ys place u at h)

  -- the children that a node of a form has
  sound_kids : (f : Form) (ts : List Tree) (place : ℕ) → ((a : ℕ) (t : Tree) (us : List Tree) → f ≡ of_next a → ts ≡ t ∷ us → span_of t ≡ all_spans (children_of t)) → AllSound g states text ts place → AllSound g states text (kids_by f ts) place
  sound_kids of_rule ts place whole all = all
  sound_kids (of_first a) ts place whole all = all
  sound_kids (of_next a) [] place whole all = all
  sound_kids (of_next a) (t ∷ us) place whole all =
      sound_append g states text (children_of t) us place (sound_inside g states text t place (sound_left (t ∷ []) us place all))
      (subst (λ (n : ℕ). AllSound g states text us (place + n)) (whole a t us refl refl) (sound_tail g states text t us place all))

-- ---- a reduction

module _ (laws : ForcedLaws) (g : FlatGrammar) (fit : Fit g) (states : States) (text : Bytes) (number left : ℕ) (p : Production) (at : production_at g number ≡ Some (left, p)) (children below : List Tree) (filled : stack_symbols children ≡ step_symbols p) (whole : IsWholeSoFar g left number children) (extent : ℕ) (state : Option ℕ) where
  abbrev node : Tree
  node = reduced g number extent state children

  abbrev read : List ℕ
  read = stack_symbols below

  abbrev place : ℕ
  place = all_spans below

  left_is : left_of g number ≡ left
  left_is = ap (λ (o : Option (ℕ × Production)). unwrap_or (option_map (λ (q : ℕ × Production). q.0) o) 0) at

  node_says : Over left (kids_by (form_of g left number) children) node
  node_says = subst (λ (n : ℕ). Over n (kids_by (form_of g n number) children) node) left_is
      (made_says (form_of g (left_of g number) number) (left_of g number) number (value_of g number) extent state children)

  node_given : Given extent state (elements_by (form_of g left number) (value_of g number) extent children) node
  node_given = subst (λ (n : ℕ). Given extent state (elements_by (form_of g n number) (value_of g number) extent children) node) left_is
      (made_given (form_of g (left_of g number) number) (left_of g number) number (value_of g number) extent state children)

  node_span : span_of node ≡ all_spans children
  node_span = node_says.span_is ∙ kids_spans (form_of g left number) children (λ a t us f is. (whole a t us f is).0)

  symbols_before : filling (reverse children ++ below) ≡ reverse (step_symbols p) ++ filling below
  symbols_before = filling_append (reverse children) below ∙ ap (λ (l : List ℕ). l ++ filling below) (filling_turned children ∙ ap (λ (l : List ℕ). reverse l) filled)

  symbols_after : filling (node ∷ below) ≡ left ∷ filling below
  symbols_after = filling_filled node below node_says.extra_is ∙ ap (λ (n : ℕ). n ∷ filling below) node_says.symbol_is

  spans_same : (xs : List Tree) → all_spans (xs ++ (reverse children ++ below)) ≡ all_spans (xs ++ node ∷ below)
  spans_same xs = omega (
    arith,
    spans_append xs (reverse children ++ below),
    spans_append xs (node ∷ below),
    spans_append (reverse children) below,
    spans_turned children,
    node_span,
  )

  module _ (lifted : List Tree) (shallow : tree_depth node ≤ most_depth) (own : (s : ℕ) → state ≡ Some s → IsStateAfter g states s read × MakesNode g read (drop place text) number children lifted extent × EachHasState children) (stack : StandOnStack g states text (reverse children ++ below)) where
    own_stands : (s : ℕ) → state_of node ≡ Some s → IsStateAfter g states s read × Stands g read (drop place text) node (node_extent node)
    own_stands s has =
        let h = own s (sym node_given.state_is ∙ has) in
        let made : Stands g read (drop place text) node extent = forced_stands g read (drop place text) node extent (made_forced laws g fit read (drop place text) number children lifted extent extent state h.1 shallow) in
        (h.0, subst (λ (e : ℕ). Stands g read (drop place text) node e) (sym node_given.extent_is) made)

    -- the element that is appended, behind those of the repetition so far
    one_later : (s a : ℕ) (t : Tree) (us : List Tree) → form_of g left number ≡ of_next a → children ≡ t ∷ us → state ≡ Some s
        → LaterStand g states text place s left (elements_of t ++ element a (length us) (value_of g number) (extent - span_of t) ∷ []) (children_of t ++ us)
    one_later s a t us form is has =
        let h = own s has in
        let w = whole a t us form is in
        let m : MakesNode g read (drop place text) number (t ∷ us) lifted extent = subst (λ (l : List Tree). MakesNode g read (drop place text) number l lifted extent) is h.1 in
        let of = first_is laws g fit read (drop place text) number t us lifted extent m left a p at form in
        let behind = made_behind laws g fit read (drop place text) number t us lifted extent m left a p at form in
        let far : drop (span_of t) (drop place text) ≡ drop (place + all_spans (children_of t)) text =
        drop-drop (span_of t) place text ∙ ap (λ (n : ℕ). drop n text) (let q : place + span_of t ≡ place + all_spans (children_of t) = let k = w.0 in omega (arith, k) in q) in
        let there = behind_told g states text (place + all_spans (children_of t)) s left number us (extent - span_of t) read h.0
        (subst (λ (x : Bytes). StandsBehind g left read x number us (extent - span_of t)) far behind) in
        let new : Element = element a (length us) (value_of g number) (extent - span_of t) in
        let stands : ElementStands g states text (place + all_spans (children_of t)) s left new (take (length us) us) = record {
          number = number;
          form = form;
          value = refl;
          stands = subst (λ (l : List Tree). StandsBehindForState g states text (place + all_spans (children_of t)) s left number l (extent - span_of t)) (sym (take_all (length us) us (omega arith))) there;
        } in
        let lies : StandOnStack g states text (reverse us ++ t ∷ below) = subst (λ (l : List Tree). StandOnStack g states text l)
        (ap (λ (l : List Tree). reverse l ++ below) is ∙ ap (λ (l : List Tree). l ++ below) (reverse-append (t ∷ []) us) ∙ append_assoc (reverse us) (t ∷ []) below) stack in
        let low : StandOnStack g states text (t ∷ below) = stack_lower g states text (reverse us) (t ∷ below) lies in
        let each : EachHasState (t ∷ us) = subst (λ (l : List Tree). EachHasState l) is h.2 in
        let mine = low.1 of.1 each.0.0 each.0.1 in
        let old = (low.2 t place each.0.0 (here t [] place) each.0.1).elements in
        let named : LaterStand g states text place each.0.0 left (elements_of t) (children_of t) = subst (λ (n : ℕ). LaterStand g states text place each.0.0 n (elements_of t) (children_of t)) of.0 old in
        later_more g states text s left (elements_of t) new (children_of t) us place w.1 (later_state g states text each.0.0 s read mine h.0 (elements_of t) (children_of t) place left named) ((λ settled. stands), tt)

    later_by : (s : ℕ) → state ≡ Some s → (f : Form) → form_of g left number ≡ f → (ts : List Tree) → children ≡ ts → LaterStand g states text place s left (elements_by f (value_of g number) extent ts) (kids_by f ts)
    later_by s has of_rule form ts is = tt
    later_by s has (of_first a) form ts is = tt
    later_by s has (of_next a) form [] is = tt
    later_by s has (of_next a) form (t ∷ us) is = one_later s a t us form is has

    node_sound : (s : ℕ) → state_of node ≡ Some s → IsSoundNode g states text place s node
    node_sound s has =
        let h = own_stands s has in
        let f : Form = form_of g left number in
        let found = later_by s (sym node_given.state_is ∙ has) f refl children refl in
        record {
          stands = λ settled. stands_for g states text place s node read h.0 h.1;
          elements = subst (λ (n : ℕ). LaterStand g states text place s n (elements_of node) (children_of node)) (sym node_says.symbol_is)
              (subst (λ (l : List Tree). LaterStand g states text place s left (elements_of node) l) (sym node_says.children_is)
              (subst (λ (es : List Element). LaterStand g states text place s left es (kids_by f children)) (sym node_given.elements_are) found));
        }

    node_on : StandOnStack g states text (node ∷ below)
    node_on =
        let kids : AllSound g states text (children_of node) place =
        subst (λ (l : List Tree). AllSound g states text l place) (sym node_says.children_is)
        (sound_kids g states text (form_of g left number) children place (λ a t us f is. (whole a t us f is).0) (sound_in_turn g states text children below stack)) in (
          (λ has. (own_stands has.0 has.1).1),
          (λ fills s has. (own_stands s has).0),
          sound_one g states text node place node_sound kids,
          stack_lower g states text (reverse children) below stack,
        )

  pub reduced_on : (lifted : List Tree) → tree_depth node ≤ most_depth → ((s : ℕ) → state ≡ Some s → IsStateAfter g states s read × MakesNode g read (drop place text) number children lifted extent × EachHasState children) → (valid : List Symbol) → AreValidTokens g (left ∷ stack_symbols below) valid
      → (xs : List Tree) → AreExtras xs → StandOnStack g states text (xs ++ (reverse children ++ below)) → StandOnStack g states text (xs ++ node ∷ below)
  reduced_on lifted shallow own valid are [] extras s = node_on lifted shallow own s
  reduced_on lifted shallow own valid are (x ∷ xs) extras s =
      let old : filling (xs ++ (reverse children ++ below)) ≡ reverse (step_symbols p) ++ filling below = filling_extras xs (reverse children ++ below) extras.1 ∙ symbols_before in
      let new : left ∷ filling below ≡ filling (xs ++ node ∷ below) = sym (filling_extras xs (node ∷ below) extras.1 ∙ symbols_after) in
      let same = spans_same xs in
      let far : drop (all_spans (xs ++ (reverse children ++ below))) text ≡ drop (all_spans (xs ++ node ∷ below)) text = ap (λ (n : ℕ). drop n text) same in (
        (λ has.
            let s₁ = subst (λ (l : List ℕ). Stands g l (drop (all_spans (xs ++ (reverse children ++ below))) text) x (node_extent x)) old (s.0 has) in
            let s₂ = subst (λ (r : Bytes). Stands g (reverse (step_symbols p) ++ filling below) r x (node_extent x)) far s₁ in
            let s₃ = extra_stays laws g fit number left p at (filling below) valid are (drop (all_spans (xs ++ node ∷ below)) text) x (node_extent x) extras.0 s₂ in
            subst (λ (l : List ℕ). Stands g l (drop (all_spans (xs ++ node ∷ below)) text) x (node_extent x)) new s₃),
        (λ fills. absurd (true≢false (sym extras.0 ∙ fills))),
        subst (λ (n : ℕ). AllSound g states text (x ∷ []) n) same s.2,
        reduced_on lifted shallow own valid are xs extras.1 s.3,
      )

-- ---- acceptance

module _ (g : FlatGrammar) (states : States) (text : Bytes) (before after : List Tree) (root : Tree) (extent : ℕ) (whole : span_of root ≡ all_spans (children_of root)) where
  abbrev kids : List Tree
  kids = (before ++ children_of root) ++ after

  abbrev tree : Tree
  tree = accepted root before after extent

  tree_says : Over (symbol_of root) kids tree
  tree_says = over_says (symbol_of root) (production_of root) (total_of root) extent None [] kids

  tree_given : Given extent None [] tree
  tree_given = over_given (symbol_of root) (production_of root) (total_of root) extent None [] kids

  turned : reverse after ++ root ∷ reverse before ≡ reverse (before ++ root ∷ after) ++ []
  turned =
      sym (append_assoc (reverse after) (root ∷ []) (reverse before)) ∙ ap (λ (l : List Tree). l ++ reverse before) (sym (reverse-append (root ∷ []) after))
      ∙ sym (reverse-append before (root ∷ after)) ∙ sym (append-nil (reverse (before ++ root ∷ after)))

  stack_spans : all_spans (reverse after ++ root ∷ reverse before) ≡ all_spans kids
  stack_spans = omega (
    arith,
    spans_append (reverse after) (root ∷ reverse before),
    spans_turned after,
    spans_turned before,
    spans_append (before ++ children_of root) after,
    spans_append before (children_of root),
    whole,
  )

  kids_sound : StandOnStack g states text (reverse after ++ root ∷ reverse before) → AllSound g states text kids 0
  kids_sound s =
      let all : AllSound g states text (before ++ root ∷ after) 0 =
      sound_in_turn g states text (before ++ root ∷ after) [] (subst (λ (l : List Tree). StandOnStack g states text l) turned s) in
      let rest : AllSound g states text (root ∷ after) (0 + all_spans before) = sound_right g states text before (root ∷ after) 0 all in
      let inner : AllSound g states text (children_of root) (0 + all_spans before) = sound_inside g states text root (0 + all_spans before) (sound_left g states text (root ∷ []) after (0 + all_spans before) rest) in
      sound_append g states text (before ++ children_of root) after 0
      (sound_append g states text before (children_of root) 0 (sound_left g states text before (root ∷ after) 0 all) inner)
      (subst (λ (n : ℕ). AllSound g states text after n)
      (let e : 0 + all_spans before + span_of root ≡ 0 + all_spans (before ++ children_of root) = omega (arith, spans_append before (children_of root), whole) in e)
      (sound_tail g states text root after (0 + all_spans before) rest))

  pub accepted_sound : StandOnStack g states text (reverse after ++ root ∷ reverse before) → all_spans (reverse after ++ root ∷ reverse before) ≤ length text → IsSound g states text tree
  accepted_sound s short =
      let all = kids_sound s in
      let lead : lead_of tree ≡ 0 = omega (arith, tree_says.span_is, ap all_spans tree_says.children_is) in
      record {
        short = omega (arith, short, stack_spans, tree_says.span_is);
        begins = λ settled. lead;
        own = λ settled state has. absurd (let e : None ≡ Some state = sym tree_given.state_is ∙ has in cc);
        inner = subst (λ (n : ℕ). AllSound g states text (children_of tree) n) (sym lead) (subst (λ (l : List Tree). AllSound g states text l 0) (sym tree_says.children_is) all);
      }
