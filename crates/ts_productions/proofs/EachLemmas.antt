-- Expansions that are found one after another.
use Rattle.std.proofs.Common.{◌≡◌, ◌∙◌, sym, ap, subst, arith, ℕ, ◌+◌, ◌<◌, ◌≤◌, List, [], ◌∷◌, map, ◌++◌, length, take, get_or, Option, None, option_map, append_assoc, append-nil, All}
use Rattle.std.specs.List.{flat_map}
use Rattle.std.proofs.lemmas.List.{take_more, take_all}
use Rattle.std.proofs.Math.Seq.{take-append_seam}
use Rattle.std.proofs.lemmas.List.Elements.{All-get_or}
use lib.IntN.{ℤ}
use Rattle.ts_rules.specs.declared.tree.Alternative.{Alternative}
use Rattle.ts_rules.specs.declared.tree.NumberedStep.{NumberedStep}
use Rattle.ts_rules.specs.Alternatives.{Alternatives, stronger}
use Rattle.ts_rules.specs.Productions.{marked_by}
use Rattle.ts_productions.specs.declared.expansion.Expansion.{Expansion}
use Rattle.ts_productions.specs.declared.spread.Inlined.{Inlined}
use Rattle.ts_productions.specs.Expansions.{Expansions, Table, last_by, spread, spread_of, spread_all, onward}
use Rattle.ts_productions.specs.Sizes.{IsUsable, look, weights_of, weigh, many_of}
use Rattle.ts_productions.proofs.SpreadLemmas.{flat_append, spread_same}
use Rattle.ts_productions.proofs.SpreadSizeLemmas.{void_spread, cap_weigh}

flat_more : {X Y : Type 0} (f : X → List Y) (xs : List X) (i : ℕ) (x : X) → i < length xs → x ≡ get_or xs i x → flat_map f (take (i + 1) xs) ≡ flat_map f (take i xs) ++ f x
flat_more {X = X} f xs i x lt at =
    ap (flat_map f) (take_more xs i x lt ∙ ap (λ (y : X). take i xs ++ y ∷ []) (sym at))
    ∙ flat_append f (take i xs) (x ∷ [])
    ∙ ap (λ ys. flat_map f (take i xs) ++ ys) (append-nil (f x))

pub each_more : (F : Table) (d : ℤ) (c : List NumberedStep) (s : NumberedStep) (rest : List NumberedStep) (inner : Expansions) (i : ℕ) (y : Expansion) (before now new : Expansions) (D : ℤ) (C : List NumberedStep) (L : Option NumberedStep)
    → i < length inner → y ≡ get_or inner i y → now ≡ before ++ flat_map (onward F d c s rest) (take i inner) → new ≡ now ++ spread F D C L rest
    → D ≡ stronger d y.dynamic → C ≡ c ++ map (marked_by s) y.steps → L ≡ option_map (last_by s) y.last
    → new ≡ before ++ flat_map (onward F d c s rest) (take (i + 1) inner)
each_more F d c s rest inner i y before now new D C L lt at so_far more e f g =
    more
    ∙ ap (λ (x : ℤ). now ++ spread F x C L rest) e
    ∙ ap (λ (x : List NumberedStep). now ++ spread F (stronger d y.dynamic) x L rest) f
    ∙ ap (λ (x : Option NumberedStep). now ++ spread F (stronger d y.dynamic) (c ++ map (marked_by s) y.steps) x rest) g
    ∙ ap (λ (xs : Expansions). xs ++ onward F d c s rest y) so_far
    ∙ append_assoc before (flat_map (onward F d c s rest) (take i inner)) (onward F d c s rest y)
    ∙ ap (λ (xs : Expansions). before ++ xs) (sym (flat_more (onward F d c s rest) inner i y lt at))

pub cut_back : (now inserted more before : List NumberedStep) (n : ℕ) → n ≡ length before → inserted ≡ before ++ more → now ≡ take n inserted → now ≡ before
cut_back now inserted more before n e f g =
    g ∙ ap (take n) f ∙ ap (λ (m : ℕ). take m (before ++ more)) e ∙ take-append_seam before more

pub each_ends : (F : Table) (d : ℤ) (c : List NumberedStep) (s : NumberedStep) (rest : List NumberedStep) (inner : Expansions) (i : ℕ) (before now : Expansions) → length inner ≤ i
    → now ≡ before ++ flat_map (onward F d c s rest) (take i inner) → now ≡ before ++ flat_map (onward F d c s rest) inner
each_ends F d c s rest inner i before now past so_far = so_far ∙ ap (λ (ys : Expansions). before ++ flat_map (onward F d c s rest) ys) (take_all i inner past)

pub none_found : (F : Table) (t : Inlined) (x : Alternative) (found : Expansions) → IsUsable F t x → weigh (many_of (weights_of t)) x.steps ≡ 0 → found ≡ found ++ spread_of F x
none_found F t x found usable none = sym (append-nil found) ∙ ap (λ (ys : Expansions). found ++ ys) (sym (void_spread F (weights_of t) x usable.agree none))

pub some_found : (F : Table) (t : Inlined) (x : Alternative) (before after : Expansions) (c rest : List NumberedStep) → IsUsable F t x → 1 ≤ weigh (many_of (weights_of t)) x.steps → c ≡ [] → rest ≡ x.steps
    → after ≡ before ++ spread (look t) x.dynamic c None rest → after ≡ before ++ spread_of F x
some_found F t x before after c rest usable some none steps found =
    found
    ∙ ap (λ (ys : List NumberedStep). before ++ spread (look t) x.dynamic ys None rest) none
    ∙ ap (λ (ys : List NumberedStep). before ++ spread (look t) x.dynamic [] None ys) steps
    ∙ ap (λ (ys : Expansions). before ++ ys) (sym (spread_same F (look t) x.dynamic [] None x.steps (usable.built (let e = cap_weigh F (weights_of t) x.steps usable.agree in omega (arith, e, some)))))

pub all_more : (F : Table) (t : Inlined) (xs : Alternatives) (i : ℕ) (x : Alternative) (now new : Expansions) → i < length xs → x ≡ get_or xs i x → All (IsUsable F t) xs → now ≡ spread_all F (take i xs)
    → (IsUsable F t x → new ≡ now ++ spread_of F x) → new ≡ spread_all F (take (i + 1) xs)
all_more F t xs i x now new lt at usable so_far more =
    more (subst (λ (y : Alternative). IsUsable F t y) (sym at) (All-get_or (IsUsable F t) xs i x lt usable))
    ∙ ap (λ (ys : Expansions). ys ++ spread_of F x) so_far
    ∙ sym (flat_more (spread_of F) xs i x lt at)

pub all_ends : (F : Table) (xs : Alternatives) (i : ℕ) (now : Expansions) → length xs ≤ i → now ≡ spread_all F (take i xs) → now ≡ spread_all F xs
all_ends F xs i now past so_far = so_far ∙ ap (spread_all F) (take_all i xs past)
