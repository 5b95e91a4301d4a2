-- Actions and symbols in order, each once, and rows that are kept once.
use Rattle.std.proofs.Common.{◌≡◌, ◌∙◌, sym, ap, refl, subst, ℕ, ◌<◌, ⊎_elim, Bool, true, false, true≢false, List, get_or, slice_get, Some, IsPermutation, arith, rules, ◌↔◌, nat_eq}
use Rattle.std.specs.Global.{Vec}
use Rattle.std.specs.Bool.{Decides}
use Rattle.std.specs.Cmp.{IsTotalOrder, IsEquivalence}
use Rattle.std.specs.declared.cmp.Ordering.{Ordering}
use Rattle.std.specs.declared.cmp.Ordering.TheVariants.{Less}
use Rattle.std.specs.Ordering.{is_eq, eq_by_cmp}
use Rattle.std.specs.List.{Contains, dedup}
use Rattle.std.specs.List.Sorted.{IsStrictlySortedBy}
use lib.Pointwise.{pointwise}
use Rattle.std.proofs.lemmas.Bool.Decides.{nat_tests}
use Rattle.std.proofs.lemmas.List.Sorted.{Contains-permutation, IsPermutation-sym}
use Rattle.std.proofs.lemmas.List.Kept.{Contains-dedup, Contains-from_dedup}
use Rattle.std.proofs.lemmas.Map.Keys.{Less-from_sorted}
use Rattle.std.proofs.lemmas.Option.{slice_get_within, get_or_from_slice_get}
use Rattle.std.proofs.lemmas.Slice.Eq.{slice_eq-Decides}
use Rattle.ts_core.specs.declared.action.Action.{Action}
use Rattle.ts_core.specs.declared.action.Action.TheVariants.{Shift, Reduce, Accept}
use Rattle.ts_core.specs.declared.symbol.Symbol.{Symbol}
use Rattle.ts_core.specs.contracts.action.ActionPartialEq.TheImpl as action_derived
use Rattle.ts_core.specs.contracts.action.ActionOrd.TheImpl as action_order
use Rattle.ts_core.specs.contracts.action.ActionOrd.TheImpl.Laws as action_laws
use Rattle.ts_core.specs.contracts.action.ActionEq.TheImpl.Laws as action_equal
use Rattle.ts_core.specs.contracts.symbol.SymbolPartialEq.TheImpl as symbol_derived
use Rattle.ts_core.specs.contracts.symbol.SymbolOrd.TheImpl as symbol_order
use Rattle.ts_core.specs.contracts.symbol.SymbolOrd.TheImpl.Laws as symbol_laws
use Rattle.ts_core.specs.contracts.symbol.SymbolEq.TheImpl.Laws as symbol_equal
use Rattle.ts_table.specs.Rules.{AreRisen}
use Rattle.ts_table.specs.Tables.{EachOnce}
use Rattle.ts_table.proofs.ListLemmas.{three}

-- ---- any elements

pub in_order_less : {X : Type 0} (cmp : X → X → Ordering) (xs : List X) (j k : ℕ) (a b : X) → IsStrictlySortedBy cmp xs → j < k → slice_get xs j ≡ Some a → slice_get xs k ≡ Some b → cmp a b ≡ Less
in_order_less {X} cmp xs j k a b sorted lt aj bk =
    let less = Less-from_sorted cmp xs j k a sorted lt (slice_get_within xs k b bk) in
    subst (λ (x : X). cmp x b ≡ Less) (get_or_from_slice_get xs j a a aj) (subst (λ (y : X). cmp (get_or xs j a) y ≡ Less) (get_or_from_slice_get xs k b a bk) less)

module _ {X : Type 0} (eq : X → X → Bool) (equiv : IsEquivalence eq) (same : (x y : X) → eq x y ≡ true → x ≡ y) where
  pub same_members : (items sorted kept : List X) → IsPermutation items sorted → kept ≡ dedup eq sorted → (i : X) → Contains kept i ↔ Contains items i
  same_members items sorted kept moved is i = (
    (λ h. Contains-permutation sorted items i (IsPermutation-sym items sorted moved) (Contains-from_dedup eq sorted i (subst (λ (l : List X). Contains l i) is h))),
    (λ h. subst (λ (l : List X). Contains l i) (sym is) (Contains-dedup equiv same sorted i (Contains-permutation items sorted i moved h))),
  )

-- ---- actions

abbrev pub action_eq : Action → Action → Bool
action_eq = (action_derived.eq-value).it

abbrev pub action_cmp : Action → Action → Ordering
action_cmp = (action_order.cmp-value).it

pub same_action : (x y : Action) → action_eq x y ≡ true → x ≡ y
same_action (Shift a) (Shift b) h = grind (arith, nat_tests)
same_action (Shift a) (Reduce b) h = absurd (let e : false ≡ true = h in cc)
same_action (Shift a) Accept h = absurd (let e : false ≡ true = h in cc)
same_action (Reduce a) (Shift b) h = absurd (let e : false ≡ true = h in cc)
same_action (Reduce a) (Reduce b) h = grind (arith, nat_tests)
same_action (Reduce a) Accept h = absurd (let e : false ≡ true = h in cc)
same_action Accept (Shift b) h = absurd (let e : false ≡ true = h in cc)
same_action Accept (Reduce b) h = absurd (let e : false ≡ true = h in cc)
same_action Accept Accept h = refl

action_itself : (x : Action) → action_eq x x ≡ true
action_itself (Shift a) = grind (arith, nat_tests)
action_itself (Reduce a) = grind (arith, nat_tests)
action_itself Accept = refl

pub action_decides : (x y : Action) → Decides (action_eq x y) (x ≡ y)
action_decides x y = (same_action x y, (λ e. subst (λ (z : Action). action_eq x z ≡ true) e (action_itself x)))

pub action_total : IsTotalOrder action_cmp
action_total = action_laws.total-law

pub action_ties : (x y : Action) → action_eq x y ≡ eq_by_cmp action_cmp x y
action_ties x y = search rules

pub action_equiv : IsEquivalence action_eq
action_equiv = action_equal.laws-law

not_less_itself : (x : Action) → action_cmp x x ≡ Less → ⊥
not_less_itself x h = true≢false (sym (action_itself x) ∙ action_ties x x ∙ ap is_eq h)

pub once_in_order : (xs : List Action) → IsStrictlySortedBy action_cmp xs → EachOnce xs
once_in_order xs sorted j k a aj ak = ⊎_elim
    (λ lt. absurd (not_less_itself a (in_order_less action_cmp xs j k a a sorted lt aj ak)))
    (λ o. ⊎_elim (λ e. e) (λ gt. absurd (not_less_itself a (in_order_less action_cmp xs k j a a sorted gt ak aj))) o)
    (three j k)

-- ---- symbols

abbrev pub symbol_eq : Symbol → Symbol → Bool
symbol_eq = (symbol_derived.eq-value).it

abbrev pub symbol_cmp : Symbol → Symbol → Ordering
symbol_cmp = (symbol_order.cmp-value).it

pub same_symbol : (x y : Symbol) → symbol_eq x y ≡ true → x ≡ y
same_symbol x y h = grind (arith, nat_tests)

pub symbol_total : IsTotalOrder symbol_cmp
symbol_total = symbol_laws.total-law

pub symbol_ties : (x y : Symbol) → symbol_eq x y ≡ eq_by_cmp symbol_cmp x y
symbol_ties x y = search rules

pub symbol_equiv : IsEquivalence symbol_eq
symbol_equiv = symbol_equal.laws-law

symbol_less : (x y : Symbol) → symbol_cmp x y ≡ Less → x.0 < y.0
symbol_less x y h = grind (arith, nat_tests)

pub risen : (items sorted kept : List Symbol) → IsPermutation items sorted → kept ≡ dedup symbol_eq sorted → IsStrictlySortedBy symbol_cmp kept → AreRisen items kept
risen items sorted kept moved is order = record {
  members = same_members symbol_eq symbol_equiv same_symbol items sorted kept moved is;
  rise = λ j k a b lt aj bk. symbol_less a b (in_order_less symbol_cmp kept j k a b order lt aj bk);
}

-- ---- rows that are kept once

same_nat : (x y : ℕ) → nat_eq x y ≡ true → x ≡ y
same_nat x y h = grind (arith, nat_tests)

nat_itself : (x : ℕ) → nat_eq x x ≡ true
nat_itself x = grind (arith, nat_tests)

nat_decides : (x y : ℕ) → Decides (nat_eq x y) (x ≡ y)
nat_decides x y = (same_nat x y, (λ e. subst (λ (z : ℕ). nat_eq x z ≡ true) e (nat_itself x)))

abbrev pub row_eq : Vec ℕ → Vec ℕ → Bool
row_eq x y = pointwise nat_eq x.items y.items

pub same_row : (a b : Vec ℕ) → row_eq a b ≡ true → a.items ≡ b.items
same_row a b h = (slice_eq-Decides nat_decides a.items b.items (pointwise nat_eq a.items b.items) refl).0 h

abbrev pub list_eq : Vec Action → Vec Action → Bool
list_eq x y = pointwise action_eq x.items y.items

pub same_list : (a b : Vec Action) → list_eq a b ≡ true → a.items ≡ b.items
same_list a b h = (slice_eq-Decides action_decides a.items b.items (pointwise action_eq a.items b.items) refl).0 h
