-- Elements of repetitions that stand behind those before them.
use Rattle.std.proofs.Common.{◌≡◌, ◌∙◌, sym, ap, refl, subst, ℕ, ◌+◌, ◌≤◌, Bool, true, List, [], ◌∷◌, ◌++◌, length, take, drop, arith}
use Rattle.std.proofs.lemmas.List.{take-append-le, drop-append-le, length-drop, length-take-le, take-append-drop}
use Rattle.std.proofs.lemmas.List.Elements.{All-head, All-tail}
use Rattle.std.specs.List.{All}
use lib.IntN.{ℤ}
use Rattle.ts_base.specs.Bytes.{Bytes}
use Rattle.ts_core.specs.declared.flat.FlatGrammar.{FlatGrammar}
use Rattle.spec_trees.specs.declared.tree.Tree.{Tree}
use Rattle.spec_trees.specs.declared.tree.Element.{Element}
use Rattle.spec_trees.specs.Trees.{all_spans}
use Rattle.spec_trees.specs.Made.{children_count, AreCounted, form_of, value_of, reach_of}
use Rattle.spec_forced.specs.Sound.{States, IsStateAfter, ElementStands, SettledStand, LaterStand, StandBehindForState}
use Rattle.spec_forced.specs.Behind.{LaterElement, ElementsEndBy, alternative_of, added_elements, added_children}
use Rattle.spec_forced.proofs.StackLemmas.{spans_append}
use Rattle.spec_forced.proofs.BehindLemmas.{behind_told, behind_after}

-- ---- lists of children

spans_split : (n : ℕ) (ts : List Tree) → all_spans ts ≡ all_spans (take n ts) + all_spans (drop n ts)
spans_split n ts = ap all_spans (sym (take-append-drop n ts)) ∙ spans_append (take n ts) (drop n ts)

pub counted_rest : (n m : ℕ) (ts : List Tree) → n + m ≡ length ts → m ≡ length (drop n ts)
counted_rest n m ts h = let l = length-drop n ts in omega (arith, h, l)

-- ---- examined ranges

-- those of elements over their children, one after another from a place on, end by another
abbrev pub StretchEndsBy : ℕ → ℕ → List Element → List Tree → Type 0
StretchEndsBy end place [] ts = Unit {0}
StretchEndsBy end place (e ∷ es) ts = (place + e.extent ≤ end) × StretchEndsBy end (place + all_spans (take e.children ts)) es (drop e.children ts)

pub reach_ends : (end : ℕ) (es : List Element) (ts : List Tree) (place : ℕ) → place + reach_of es ts ≤ end → StretchEndsBy end place es ts
reach_ends end [] ts place h = tt
reach_ends end (e ∷ es) ts place h = (omega (arith, h), reach_ends end es (drop e.children ts) (place + all_spans (take e.children ts)) (omega (arith, h)))

module _ (g : FlatGrammar) (states : States) (text : Bytes) where
  -- ---- one state for another

  module _ (state other : ℕ) (read : List ℕ) (mine : IsStateAfter g states state read) (yours : IsStateAfter g states other read) where
    element_state : (place symbol : ℕ) (e : Element) (ts : List Tree) → ElementStands g states text place state symbol e ts → ElementStands g states text place other symbol e ts
    element_state place symbol e ts s = record {
      number = s.number;
      form = s.form;
      value = s.value;
      stands = behind_told g states text place other symbol s.number ts e.extent read yours (behind_after g states text place state symbol s.number ts e.extent read mine s.stands);
    }

    pub settled_state : (es : List Element) (ts : List Tree) (place symbol : ℕ) → SettledStand g states text place state symbol es ts → SettledStand g states text place other symbol es ts
    settled_state [] ts place symbol s = tt
    settled_state (e ∷ es) ts place symbol s = (
      (λ settled. element_state place symbol e (take e.children ts) (s.0 settled)),
      settled_state es (drop e.children ts) (place + all_spans (take e.children ts)) symbol s.1,
    )

    pub later_state : (es : List Element) (ts : List Tree) (place symbol : ℕ) → LaterStand g states text place state symbol es ts → LaterStand g states text place other symbol es ts
    later_state [] ts place symbol s = tt
    later_state (e ∷ es) ts place symbol s = settled_state es (drop e.children ts) (place + all_spans (take e.children ts)) symbol s

  -- ---- more elements

  module _ (state symbol : ℕ) where
    pub settled_append : (es fs : List Element) (ts us : List Tree) (place : ℕ) → children_count es ≡ length ts → SettledStand g states text place state symbol es ts → SettledStand g states text (place + all_spans ts) state symbol fs us
        → SettledStand g states text place state symbol (es ++ fs) (ts ++ us)
    settled_append [] fs [] us place count s more = subst (λ (n : ℕ). SettledStand g states text n state symbol fs us) (let q : place + 0 ≡ place = omega arith in q) more
    settled_append [] fs (t ∷ ts) us place count s more = absurd (omega (arith, count))
    settled_append (e ∷ es) fs ts us place count s more =
        let n : ℕ = e.children in
        let within : n ≤ length ts = omega (arith, count) in
        let first : take n (ts ++ us) ≡ take n ts = take-append-le n ts us within in
        let rest : drop n (ts ++ us) ≡ drop n ts ++ us = drop-append-le n ts us within in
        let at : place + all_spans ts ≡ place + all_spans (take n ts) + all_spans (drop n ts) = let h = spans_split n ts in omega (arith, h) in
        let deep = settled_append es fs (drop n ts) us (place + all_spans (take n ts)) (counted_rest n (children_count es) ts count) s.1 (subst (λ (m : ℕ). SettledStand g states text m state symbol fs us) at more) in (
          (λ settled. subst (λ (l : List Tree). ElementStands g states text place state symbol e l) (sym first) (s.0 settled)),
          subst (λ (l : List Tree). SettledStand g states text (place + all_spans l) state symbol (es ++ fs) (drop n (ts ++ us))) (sym first)
              (subst (λ (l : List Tree). SettledStand g states text (place + all_spans (take n ts)) state symbol (es ++ fs) l) (sym rest) deep),
        )

    pub later_append : (es fs : List Element) (ts us : List Tree) (place : ℕ) → children_count es ≡ length ts → LaterStand g states text place state symbol es ts → SettledStand g states text (place + all_spans ts) state symbol fs us
        → LaterStand g states text place state symbol (es ++ fs) (ts ++ us)
    later_append [] [] ts us place count s more = tt
    later_append [] (f ∷ fs) [] us place count s more =
        subst (λ (n : ℕ). SettledStand g states text (n + all_spans (take f.children us)) state symbol fs (drop f.children us)) (let q : place + 0 ≡ place = omega arith in q) more.1
    later_append [] (f ∷ fs) (t ∷ ts) us place count s more = absurd (omega (arith, count))
    later_append (e ∷ es) fs ts us place count s more =
        let n : ℕ = e.children in
        let within : n ≤ length ts = omega (arith, count) in
        let first : take n (ts ++ us) ≡ take n ts = take-append-le n ts us within in
        let rest : drop n (ts ++ us) ≡ drop n ts ++ us = drop-append-le n ts us within in
        let at : place + all_spans ts ≡ place + all_spans (take n ts) + all_spans (drop n ts) = let h = spans_split n ts in omega (arith, h) in
        let deep = settled_append es fs (drop n ts) us (place + all_spans (take n ts)) (counted_rest n (children_count es) ts count) s (subst (λ (m : ℕ). SettledStand g states text m state symbol fs us) at more) in
        subst (λ (l : List Tree). SettledStand g states text (place + all_spans l) state symbol (es ++ fs) (drop n (ts ++ us))) (sym first)
        (subst (λ (l : List Tree). SettledStand g states text (place + all_spans (take n ts)) state symbol (es ++ fs) l) (sym rest) deep)

    -- one element more, behind elements that have just these children
    pub later_more : (es : List Element) (x : Element) (ts us : List Tree) (place : ℕ) → AreCounted es ts → LaterStand g states text place state symbol es ts → SettledStand g states text (place + all_spans ts) state symbol (x ∷ []) us
        → LaterStand g states text place state symbol (es ++ x ∷ []) (ts ++ us)
    later_more [] x ts us place count s more = tt
    later_more (e ∷ es) x ts us place count s more = later_append (e ∷ es) (x ∷ []) ts us place count s more

    -- ---- elements that are settled, as those that a parser would append

    -- what they are for a parser
    pub record Appended (place : ℕ) (es : List Element) (ts : List Tree) : Type 0 where
      pub later : List LaterElement
      pub elements_are : added_elements g symbol later ≡ es
      pub children_are : added_children later ≡ ts
      pub stand : StandBehindForState g states text place state symbol later
      pub ends : (end from : ℕ) → StretchEndsBy end from es ts → ElementsEndBy end from later

    made : ℕ → ℕ → ℤ → ℕ → Bool → Element
    made alternative children dynamic extent settled = record { alternative = alternative; children = children; dynamic = dynamic; extent = extent; settled = settled }

    same_made : (a b n m : ℕ) (v w : ℤ) (x : ℕ) (s r : Bool) → a ≡ b → n ≡ m → v ≡ w → s ≡ r → made a n v x s ≡ made b m w x r
    same_made a b n m v w x s r h k l j =
        ap (λ (y : ℕ). made y n v x s) h ∙ ap (λ (y : ℕ). made b y v x s) k ∙ ap (λ (y : ℤ). made b m y x s) l ∙ ap (λ (y : Bool). made b m w x y) j

    pub appended_of : (es : List Element) (ts : List Tree) (place : ℕ) → All (λ e. e.settled ≡ true) es → children_count es ≡ length ts → SettledStand g states text place state symbol es ts → Appended place es ts
    unfolding made
    appended_of [] [] place settled count s = record {
      later = [];
      elements_are = refl;
      children_are = refl;
      stand = tt;
      ends = λ end from h. tt;
    }
    appended_of [] (t ∷ ts) place settled count s = absurd (omega (arith, count))
    appended_of (e ∷ es) ts place settled count s =
        let n : ℕ = e.children in
        let own : e.settled ≡ true = All-head (λ (x : Element). x.settled ≡ true) e es settled in
        let x = s.0 own in
        let within : n ≤ length ts = omega (arith, count) in
        let kids : List Tree = take n ts in
        let l : LaterElement = record { number = x.number; children = kids; extent = e.extent } in
        let more = appended_of es (drop n ts) (place + all_spans kids) (All-tail (λ (y : Element). y.settled ≡ true) e es settled) (counted_rest n (children_count es) ts count) s.1 in
        let same : made (alternative_of (form_of g symbol x.number)) (length kids) (value_of g x.number) e.extent true ≡ e =
        same_made (alternative_of (form_of g symbol x.number)) e.alternative (length kids) n (value_of g x.number) e.dynamic e.extent true e.settled
        (ap alternative_of x.form) (length-take-le n ts within) (sym x.value) (sym own) in
        record {
          later = l ∷ more.later;
          elements_are = ap (λ (y : Element). y ∷ added_elements g symbol more.later) same ∙ ap (λ (ys : List Element). e ∷ ys) more.elements_are;
          children_are = ap (λ (ys : List Tree). kids ++ ys) more.children_are ∙ take-append-drop n ts;
          stand = (x.stands, more.stand);
          ends = λ end from h. (h.0, more.ends end (from + all_spans kids) h.1);
        }
