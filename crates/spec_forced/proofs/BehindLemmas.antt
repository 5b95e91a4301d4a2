-- Elements that stand behind a repetition do so elsewhere too, and are those of reductions that are no choice.
use Rattle.std.proofs.Common.{◌≡◌, ◌∙◌, sym, ap, subst, ℕ, suc, ◌+◌, ◌-◌, ◌<◌, ◌≤◌, false, List, [], ◌∷◌, ◌++◌, append_assoc, length, reverse, drop, Option, Some, unwrap_or, arith}
use Rattle.std.proofs.lemmas.List.{drop-drop, reverse-append, reverse-reverse, length-map, length-reverse}
use Rattle.ts_base.specs.Bytes.{Bytes}
use Rattle.ts_core.specs.declared.flat.FlatGrammar.{FlatGrammar}
use Rattle.ts_core.specs.declared.flat.Production.{Production}
use Rattle.ts_core.specs.declared.flat.Step.{Step}
use Rattle.spec_grammar.specs.Symbols.{production_at}
use Rattle.spec_lexing.specs.Lexing.{token}
use Rattle.spec_lexing.specs.Seen.{Agree}
use Rattle.spec_tables.specs.Actions.{reduce}
use Rattle.spec_tables.specs.Fit.{Fit}
use Rattle.spec_trees.specs.declared.tree.Tree.{Tree}
use Rattle.spec_trees.specs.Trees.{symbol_of, is_extra_node, node_extent, span_of, all_spans}
use Rattle.spec_trees.specs.Made.{filling, step_symbols, form_of, of_next, EndBy, BeginsFilled}
use Rattle.spec_runs.specs.Configurations.{stack_symbols}
use Rattle.spec_forced.specs.Forced.{HaveSameItems, IsOnlyMove, IsDecided, Stands, StandInTurn, MakesNode}
use Rattle.spec_forced.specs.Laws.{ForcedLaws}
use Rattle.spec_forced.specs.Sound.{States, IsStateAfter, StandsBehindForState, StandBehindForState}
use Rattle.spec_forced.specs.Behind.{StandsBehind, IsOfSymbol, LaterElement, StandBehindInTurn}
use Rattle.spec_forced.proofs.ItemLemmas.{same_back, same_front, only_same}
use Rattle.spec_forced.proofs.SeenLemmas.{agree_drop, agree_self, decided_same, decided_again}
use Rattle.spec_forced.proofs.ForcedLemmas.{stands_again}
use Rattle.spec_forced.proofs.StackLemmas.{filling_append, filling_turned, filling_filled, same_beginning}

-- ---- examined ranges

pub end_wider : (e f place : ℕ) (ts : List Tree) → e ≤ f → EndBy e place ts → EndBy f place ts
end_wider e f place [] le h = tt
end_wider e f place (t ∷ ts) le h = (omega (arith, h.0, le), end_wider e f (place + span_of t) ts le h.1)

-- from a later place on
end_after : (e off place : ℕ) (ts : List Tree) → EndBy e (off + place) ts → EndBy (e - off) place ts
end_after e off place [] h = tt
end_after e off place (t ∷ ts) h = (
  omega (arith, h.0),
  end_after e off (place + span_of t) ts (subst (λ (n : ℕ). EndBy e n ts) (let q : off + place + span_of t ≡ off + (place + span_of t) = omega arith in q) h.1),
)

-- and from an earlier one
end_before : (e f off place : ℕ) (ts : List Tree) → off + e ≤ f → EndBy e place ts → EndBy f (off + place) ts
end_before e f off place [] le h = tt
end_before e f off place (t ∷ ts) le h = (
  omega (arith, h.0, le),
  subst (λ (n : ℕ). EndBy f n ts) (let q : off + (place + span_of t) ≡ off + place + span_of t = omega arith in q) (end_before e f off (place + span_of t) ts le h.1),
)

-- ---- the same elsewhere

in_turn_again : (g : FlatGrammar) (rest text : Bytes) (extent : ℕ) → Agree extent rest text → (ts : List Tree) (read other : List ℕ) (place : ℕ) → HaveSameItems g read other → EndBy extent place ts → StandInTurn g read (drop place rest) ts → StandInTurn g other (drop place text) ts
in_turn_again g rest text extent agree [] read other place same covers s = tt
in_turn_again g rest text extent agree (t ∷ ts) read other place same covers s =
    let on : StandInTurn g (stack_symbols (t ∷ []) ++ read) (drop (place + span_of t) rest) ts =
    subst (λ (x : Bytes). StandInTurn g (stack_symbols (t ∷ []) ++ read) x ts) (drop-drop (span_of t) place rest) s.1 in
    let more = in_turn_again g rest text extent agree ts (stack_symbols (t ∷ []) ++ read) (stack_symbols (t ∷ []) ++ other) (place + span_of t) (same_front g (stack_symbols (t ∷ [])) read other same) covers.1 on in (
      stands_again g read other (drop place rest) (drop place text) t (node_extent t) same (agree_drop (node_extent t) place extent rest text covers.0 agree) s.0,
      subst (λ (x : Bytes). StandInTurn g (stack_symbols (t ∷ []) ++ other) x ts) (sym (drop-drop (span_of t) place text)) more,
    )

pub behind_again : (g : FlatGrammar) (symbol : ℕ) (read other : List ℕ) (rest text : Bytes) (number : ℕ) (children : List Tree) (extent : ℕ) → HaveSameItems g read other → Agree extent rest text → StandsBehind g symbol read rest number children extent
    → StandsBehind g symbol other text number children extent
behind_again g symbol read other rest text number children extent same agree b =
    let xs : List ℕ = stack_symbols (reverse children) in
    let n : ℕ = all_spans children + all_spans b.lifted in
    let after : HaveSameItems g (symbol ∷ read) (symbol ∷ other) = same_front g (symbol ∷ []) read other same in
    let above : HaveSameItems g (xs ++ symbol ∷ read) (xs ++ symbol ∷ other) = same_front g xs (symbol ∷ read) (symbol ∷ other) after in
    record {
      production = b.production;
      at = b.at;
      alternative = b.alternative;
      form = b.form;
      lifted = b.lifted;
      stand = in_turn_again g rest text extent agree (children ++ reverse b.lifted) (symbol ∷ read) (symbol ∷ other) 0 after b.covers b.stand;
      covers = b.covers;
      all_extras = b.all_extras;
      ends = b.ends;
      count = b.count;
      next = b.next;
      pad = b.pad;
      size = b.size;
      ahead = b.ahead;
      seen = decided_again g (xs ++ symbol ∷ other) (drop n rest) (drop n text) (token b.next b.pad b.size) b.ahead (agree_drop b.ahead n extent rest text b.reach agree)
          (decided_same g (xs ++ symbol ∷ read) (xs ++ symbol ∷ other) (drop n rest) (token b.next b.pad b.size) b.ahead above b.seen);
      only = only_same g (xs ++ symbol ∷ read) (xs ++ symbol ∷ other) b.next.0 (reduce number) above b.only;
      reach = b.reach;
    }

pub behind_rises : (g : FlatGrammar) (symbol : ℕ) (read : List ℕ) (rest : Bytes) (number : ℕ) (children : List Tree) (extent more : ℕ) → extent ≤ more → StandsBehind g symbol read rest number children extent → StandsBehind g symbol read rest number children more
behind_rises g symbol read rest number children extent more le b = record {
  production = b.production;
  at = b.at;
  alternative = b.alternative;
  form = b.form;
  lifted = b.lifted;
  stand = b.stand;
  covers = end_wider extent more 0 (children ++ reverse b.lifted) le b.covers;
  all_extras = b.all_extras;
  ends = b.ends;
  count = b.count;
  next = b.next;
  pad = b.pad;
  size = b.size;
  ahead = b.ahead;
  seen = b.seen;
  only = b.only;
  reach = omega (arith, b.reach, le);
}

-- ---- states

pub behind_told : (g : FlatGrammar) (states : States) (text : Bytes) (place state symbol number : ℕ) (children : List Tree) (extent : ℕ) (read : List ℕ) → IsStateAfter g states state read → StandsBehind g symbol read (drop place text) number children extent
    → StandsBehindForState g states text place state symbol number children extent
behind_told g states text place state symbol number children extent read s b = record {
  way = s.way;
  at = s.at;
  stands = behind_again g symbol read s.way (drop place text) (drop place text) number children extent (same_back g s.way read s.same) (agree_self extent (drop place text)) b;
}

pub behind_after : (g : FlatGrammar) (states : States) (text : Bytes) (place state symbol number : ℕ) (children : List Tree) (extent : ℕ) (read : List ℕ) → IsStateAfter g states state read → StandsBehindForState g states text place state symbol number children extent
    → StandsBehind g symbol read (drop place text) number children extent
behind_after g states text place state symbol number children extent read s f =
    let e : ◌≡◌ {A = Option (List ℕ)} (Some f.way) (Some s.way) = sym f.at ∙ s.at in
    let same : f.way ≡ s.way = ap (λ (o : Option (List ℕ)). unwrap_or o f.way) e in
    behind_again g symbol f.way read (drop place text) (drop place text) number children extent (subst (λ (l : List ℕ). HaveSameItems g l read) (sym same) s.same) (agree_self extent (drop place text)) f.stands

pub behind_in_turn : (g : FlatGrammar) (states : States) (text : Bytes) (state symbol : ℕ) (read : List ℕ) → IsStateAfter g states state read → (es : List LaterElement) (place : ℕ) → StandBehindForState g states text place state symbol es → StandBehindInTurn g symbol read (drop place text) es
behind_in_turn g states text state symbol read s [] place all = tt
behind_in_turn g states text state symbol read s (e ∷ es) place all = (
  behind_after g states text place state symbol e.number e.children e.extent read s all.0,
  subst (λ (x : Bytes). StandBehindInTurn g symbol read x es) (sym (drop-drop (all_spans e.children) place text)) (behind_in_turn g states text state symbol read s es (place + all_spans e.children) all.1),
)

-- ---- symbols and bytes of a list behind a tree

module _ (t : Tree) (children : List Tree) where
  turned : reverse (t ∷ children) ≡ reverse children ++ t ∷ []
  turned = reverse-append (t ∷ []) children

  module _ (symbol : ℕ) (of : IsOfSymbol symbol t) (read : List ℕ) where
    pub symbol_before : stack_symbols (t ∷ []) ++ read ≡ symbol ∷ read
    symbol_before = ap (λ (l : List ℕ). l ++ read) (filling_filled t [] of.1 ∙ ap (λ (n : ℕ). n ∷ []) of.0)

    pub symbols_behind : stack_symbols (reverse (t ∷ children)) ++ read ≡ stack_symbols (reverse children) ++ symbol ∷ read
    symbols_behind =
        ap (λ (l : List ℕ). l ++ read) (ap filling turned ∙ filling_append (reverse children) (t ∷ []))
        ∙ append_assoc (filling (reverse children)) (filling (t ∷ [])) read
        ∙ ap (λ (l : List ℕ). filling (reverse children) ++ l) symbol_before

  begins_behind : BeginsFilled (reverse (t ∷ children)) → BeginsFilled (reverse children)
  begins_behind h = by (reverse children) (subst (λ (l : List Tree). BeginsFilled l) turned h)
    where
      by : (xs : List Tree) → BeginsFilled (xs ++ t ∷ []) → BeginsFilled xs
      by [] k = tt
      by (x ∷ xs) k = k

  begins_before : is_extra_node t ≡ false → BeginsFilled (reverse children) → BeginsFilled (reverse (t ∷ children))
  begins_before fills h = subst (λ (l : List Tree). BeginsFilled l) (sym turned) (by (reverse children) h)
    where
      by : (xs : List Tree) → BeginsFilled xs → BeginsFilled (xs ++ t ∷ [])
      by [] k = fills
      by (x ∷ xs) k = k

  rest_behind : (lifted : List Tree) (rest : Bytes) → drop (all_spans children + all_spans lifted) (drop (span_of t) rest) ≡ drop (all_spans (t ∷ children) + all_spans lifted) rest
  rest_behind lifted rest =
      drop-drop (all_spans children + all_spans lifted) (span_of t) rest
      ∙ ap (λ (n : ℕ). drop n rest) (let q : span_of t + (all_spans children + all_spans lifted) ≡ all_spans (t ∷ children) + all_spans lifted = omega arith in q)

-- ---- elements of reductions

second_same : (a b : ℕ) (q p : Production) → ◌≡◌ {A = Option (ℕ × Production)} (Some (a, q)) (Some (b, p)) → (a ≡ b) × (q ≡ p)
second_same a b q p e = (
  ap (λ (o : Option (ℕ × Production)). (unwrap_or o (a, q)).0) e,
  ap (λ (o : Option (ℕ × Production)). (unwrap_or o (a, q)).1) e,
)

-- where the production of this number is reduced, what was read ends with its steps
pub ends_with : ForcedLaws → (g : FlatGrammar) (number left t : ℕ) (p : Production) (xs read : List ℕ) → production_at g number ≡ Some (left, p) → length xs ≡ length p.steps → IsOnlyMove g (xs ++ read) t (reduce number) → xs ≡ reverse (step_symbols p)
ends_with laws g number left t p xs read at many only =
    let ends = laws.reduces g (xs ++ read) t number only.stays in
    let same : ends.production ≡ p = (second_same ends.left left ends.production p (sym ends.at ∙ at)).1 in
    let steps : xs ++ read ≡ reverse (step_symbols p) ++ ends.earlier = ends.read_is ∙ ap (λ (q : Production). reverse (step_symbols q) ++ ends.earlier) same in
    let long : length xs ≡ length (reverse (step_symbols p)) = omega (arith, many, length-reverse (step_symbols p), length-map p.steps (λ (step : Step). step.symbol.0)) in
    (same_beginning xs (reverse (step_symbols p)) read ends.earlier long steps).0

module _ (laws : ForcedLaws) (g : FlatGrammar) (fit : Fit g) (read : List ℕ) (rest : Bytes) (number : ℕ) (t : Tree) (children lifted : List Tree) (extent : ℕ) (m : MakesNode g read rest number (t ∷ children) lifted extent) (left alternative : ℕ) (p : Production) (at : production_at g number ≡ Some (left, p))
    (form : form_of g left number ≡ of_next alternative) where
  one : (m.left ≡ left) × (m.production ≡ p)
  one = second_same m.left left m.production p (sym m.at ∙ at)

  many : length (filling (t ∷ children)) ≡ length p.steps
  many = m.count ∙ ap (λ (q : Production). length q.steps) one.1

  filled : filling (t ∷ children) ≡ step_symbols p
  filled =
      let long : length (filling (reverse (t ∷ children))) ≡ length p.steps =
      omega (arith, many, ap (λ (l : List ℕ). length l) (filling_turned (t ∷ children)), length-reverse (filling (t ∷ children))) in
      let back = ends_with laws g number left m.symbol.0 p (filling (reverse (t ∷ children))) read at long m.only in
      sym (reverse-reverse (filling (t ∷ children))) ∙ ap (λ (l : List ℕ). reverse l) (sym (filling_turned (t ∷ children)) ∙ back) ∙ reverse-reverse (step_symbols p)

  -- the first child is the repetition so far
  pub first_is : IsOfSymbol left t
  first_is =
      let again = laws.repeats g fit number left alternative p at form in
      let names : symbol_of t ∷ filling children ≡ left ∷ again.next ∷ again.others = sym (filling_filled t children m.begins) ∙ filled ∙ again.steps_are in
      ((let e : symbol_of t ≡ left = cc in e), m.begins)

  pub made_behind : StandsBehind g left read (drop (span_of t) rest) number children (extent - span_of t)
  made_behind =
      let symbols = symbols_behind t children left first_is read in record {
        production = p;
        at = at;
        alternative = alternative;
        form = form;
        lifted = lifted;
        stand = subst (λ (l : List ℕ). StandInTurn g l (drop (span_of t) rest) (children ++ reverse lifted)) (symbol_before t children left first_is read) m.stand.1;
        covers = end_after extent (span_of t) 0 (children ++ reverse lifted) (subst (λ (n : ℕ). EndBy extent n (children ++ reverse lifted)) (let q : 0 + span_of t ≡ span_of t + 0 = omega arith in q) m.covers.1);
        all_extras = m.all_extras;
        ends = begins_behind t children m.ends;
        count = (let e : suc (length (filling children)) ≡ length (filling (t ∷ children)) = sym (ap (λ (l : List ℕ). length l) (filling_filled t children m.begins)) in e) ∙ many;
        next = m.symbol;
        pad = m.pad;
        size = m.size;
        ahead = m.ahead;
        seen = subst (λ (x : Bytes). IsDecided g (stack_symbols (reverse children) ++ left ∷ read) x (token m.symbol m.pad m.size) m.ahead) (sym (rest_behind t children lifted rest))
            (subst (λ (l : List ℕ). IsDecided g l (drop (all_spans (t ∷ children) + all_spans lifted) rest) (token m.symbol m.pad m.size) m.ahead) symbols m.seen);
        only = subst (λ (l : List ℕ). IsOnlyMove g l m.symbol.0 (reduce number)) symbols m.only;
        reach = omega (arith, m.reach);
      }

-- with the repetition before them, the children of such an element are the steps of its production
pub behind_steps : (laws : ForcedLaws) (g : FlatGrammar) → Fit g → (symbol : ℕ) (read : List ℕ) (rest : Bytes) (number : ℕ) (children : List Tree) (extent : ℕ) (b : StandsBehind g symbol read rest number children extent)
    → (symbol ∷ filling children ≡ step_symbols b.production) × (0 < length (filling children))
behind_steps laws g fit symbol read rest number children extent b =
    let turned : List ℕ = filling (reverse children) ++ symbol ∷ [] in
    let whole : reverse (symbol ∷ filling children) ≡ turned = reverse-append (symbol ∷ []) (filling children) ∙ ap (λ (l : List ℕ). l ++ symbol ∷ []) (sym (filling_turned children)) in
    let many : length turned ≡ length b.production.steps = omega (arith, b.count, ap (λ (l : List ℕ). length l) whole, length-reverse (symbol ∷ filling children)) in
    let only : IsOnlyMove g (turned ++ read) b.next.0 (reduce number) =
    subst (λ (l : List ℕ). IsOnlyMove g l b.next.0 (reduce number)) (sym (append_assoc (filling (reverse children)) (symbol ∷ []) read)) b.only in
    let back : turned ≡ reverse (step_symbols b.production) = ends_with laws g number symbol b.next.0 b.production turned read b.at many only in
    let steps : symbol ∷ filling children ≡ step_symbols b.production =
    sym (reverse-reverse (symbol ∷ filling children)) ∙ ap (λ (l : List ℕ). reverse l) (whole ∙ back) ∙ reverse-reverse (step_symbols b.production) in
    let again = laws.repeats g fit number symbol b.alternative b.production b.at b.form in
    let count : length (symbol ∷ filling children) ≡ length (symbol ∷ again.next ∷ again.others) = ap (λ (l : List ℕ). length l) (steps ∙ again.steps_are) in
    (steps, (omega (arith, count)))

-- behind a repetition that stands it makes a node
pub behind_makes : (g : FlatGrammar) (symbol : ℕ) (read : List ℕ) (rest : Bytes) (number : ℕ) (t : Tree) (children : List Tree) (e extent : ℕ) → IsOfSymbol symbol t → Stands g read rest t (node_extent t) → node_extent t ≤ extent → span_of t + e ≤ extent
    → (b : StandsBehind g symbol read (drop (span_of t) rest) number children e) → MakesNode g read rest number (t ∷ children) b.lifted extent
behind_makes g symbol read rest number t children e extent of own first reach b =
    let symbols = symbols_behind t children symbol of read in
    let count : length (filling (t ∷ children)) ≡ length b.production.steps = ap (λ (l : List ℕ). length l) (filling_filled t children of.1) ∙ b.count in record {
      left = symbol;
      production = b.production;
      at = b.at;
      some = omega (arith, b.count);
      stand = (
        own,
        subst (λ (l : List ℕ). StandInTurn g l (drop (span_of t) rest) (children ++ reverse b.lifted)) (sym (symbol_before t children symbol of read)) b.stand,
      );
      covers = (
        omega (arith, first),
        subst (λ (n : ℕ). EndBy extent n (children ++ reverse b.lifted)) (let q : span_of t + 0 ≡ 0 + span_of t = omega arith in q) (end_before e extent (span_of t) 0 (children ++ reverse b.lifted) reach b.covers),
      );
      all_extras = b.all_extras;
      begins = of.1;
      ends = begins_before t children of.1 b.ends;
      count = count;
      symbol = b.next;
      pad = b.pad;
      size = b.size;
      ahead = b.ahead;
      seen = subst (λ (x : Bytes). IsDecided g (stack_symbols (reverse (t ∷ children)) ++ read) x (token b.next b.pad b.size) b.ahead) (rest_behind t children b.lifted rest)
          (subst (λ (l : List ℕ). IsDecided g l (drop (all_spans children + all_spans b.lifted) (drop (span_of t) rest)) (token b.next b.pad b.size) b.ahead) (sym symbols) b.seen);
      only = subst (λ (l : List ℕ). IsOnlyMove g l b.next.0 (reduce number)) (sym symbols) b.only;
      reach = omega (arith, b.reach, reach);
    }
