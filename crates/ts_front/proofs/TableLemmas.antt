-- A grammar has a table, or it has none for one cause.
use Rattle.std.proofs.Common.{◌≡◌, ◌∙◌, sym, ap, subst, refl, ℕ, ◌<◌, ◌≤◌, ◌⊎◌, inl, inr, List, [], ◌∷◌, Result, Ok, Err, arith}
use Rattle.std.specs.Prelude.{IfOk, IfErr}
use Rattle.ts_core.specs.declared.flat.FlatGrammar.{FlatGrammar}
use Rattle.ts_core.specs.declared.symbol.Symbol.{Symbol}
use Rattle.spec_tables.specs.Conflicts.{AreDeclared, IsFirstUndeclared, NotAfter}
use Rattle.ts_table.specs.Tables.{IsTable}
use Rattle.ts_items.specs.Collection.{AreTooManyStates, too_many}
use Rattle.ts_items.specs.declared.numbering.ItemFault.{ItemFault}
use Rattle.ts_items.specs.declared.numbering.ItemFault.TheVariants as items
use Rattle.ts_table.specs.declared.resolving.TableFault.{TableFault}
use Rattle.ts_table.specs.declared.resolving.TableFault.TheVariants as table
use Rattle.ts_table.specs.declared.view.ParseTable.{ParseTable}
use Rattle.ts_front.specs.TableGives.{items_fault, table_fault}
use Rattle.ts_front.specs.Tables.{HasTable, HasNoTable, too_many_states, undeclared}
use Rattle.ts_front.specs.declared.table_fault.NoTable.{NoTable}
use Rattle.ts_front.specs.declared.table_fault.NoTable.TheVariants.{TooManyStates, Conflict, Memory}

-- ---- what the parts answer

pub items_refuse : (f : FlatGrammar) (e : ItemFault) → (e ≡ items.Memory) ⊎ ((e ≡ items.TooManyStates too_many) × AreTooManyStates f)
    → (items_fault e ≡ Memory) ⊎ HasNoTable f (items_fault e)
items_refuse f items.Memory h = inl refl
items_refuse f (items.TooManyStates n) (inl e) = absurd cc
items_refuse f (items.TooManyStates n) (inr h) = inr (at n (number n h.0))
  where
    number : (n : ℕ) → items.TooManyStates n ≡ items.TooManyStates too_many → too_many ≡ n
    number n e = cc

    at : (n : ℕ) → too_many ≡ n → HasNoTable f (TooManyStates n)
    at n e = subst (λ (m : ℕ). HasNoTable f (TooManyStates m)) e (too_many_states h.1)

pub table_refuses : (f : FlatGrammar) (e : TableFault) → (AreTooManyStates f → ⊥)
    → (e ≡ table.Memory) ⊎ ((token : Symbol) × (rules : List Symbol) × (e ≡ table.Conflict f token rules) × IsFirstUndeclared f token.0 rules)
    → (table_fault e ≡ Memory) ⊎ HasNoTable f (table_fault e)
table_refuses f e few (inl m) = inl (ap table_fault m)
table_refuses f e few (inr h) = inr (subst (HasNoTable f) (sym (ap table_fault h.2)) (undeclared h.0 h.1 few h.3))

-- a table that stands is one of a grammar with few states and no undeclared conflict
pub has_table : (f : FlatGrammar) (t : ParseTable) → (AreTooManyStates f → ⊥) → IsTable t → t.grammar ≡ f → HasTable f
has_table f t few stands is = record { few = few; declared = subst AreDeclared is stands.declared }

-- ---- one cause

abbrev numbered : ℕ → Symbol
numbered k = record { 0 = k }

one_symbol : (a b : Symbol) → a.0 ≡ b.0 → a ≡ b
one_symbol a b e = ap numbered e

one_list : (xs ys : List Symbol) → NotAfter xs ys → NotAfter ys xs → xs ≡ ys
one_list [] [] h k = refl
one_list [] (y ∷ ys) h k = absurd k
one_list (x ∷ xs) [] h k = absurd h
one_list (x ∷ xs) (y ∷ ys) (inl h) (inl k) = absurd (omega (arith, h, k))
one_list (x ∷ xs) (y ∷ ys) (inl h) (inr k) = let e = k.0 in absurd (omega (arith, h, e))
one_list (x ∷ xs) (y ∷ ys) (inr h) (inl k) = let e = h.0 in absurd (omega (arith, e, k))
one_list (x ∷ xs) (y ∷ ys) (inr h) (inr k) = both (one_symbol x y h.0) (one_list xs ys h.1 k.1)
  where
    both : x ≡ y → xs ≡ ys → x ∷ xs ≡ y ∷ ys
    both d e = cc

one_first : (f : FlatGrammar) (s t : Symbol) (xs ys : List Symbol) → IsFirstUndeclared f s.0 xs → IsFirstUndeclared f t.0 ys → Conflict f s xs ≡ Conflict f t ys
one_first f s t xs ys a b =
    let low = a.least_token t.0 ys b.undeclared in
    let high = b.least_token s.0 xs a.undeclared in
    let number : s.0 ≡ t.0 = omega (arith, low, high) in
    let token : s ≡ t = one_symbol s t number in
    by token a
  where
    by : s ≡ t → IsFirstUndeclared f s.0 xs → Conflict f s xs ≡ Conflict f t ys
    by e c =
        let moved : IsFirstUndeclared f t.0 xs = subst (λ (z : Symbol). IsFirstUndeclared f z.0 xs) e c in
        let rules : xs ≡ ys = one_list xs ys (moved.least_rules ys b.undeclared) (b.least_rules xs moved.undeclared) in
        cc

pub one_fault : (f : FlatGrammar) (e d : NoTable) → HasNoTable f e → HasNoTable f d → e ≡ d
one_fault f e d (too_many_states a) (too_many_states b) = refl
one_fault f e d (too_many_states a) (undeclared t xs few b) = absurd (few a)
one_fault f e d (undeclared t xs few b) (too_many_states a) = absurd (few a)
one_fault f e d (undeclared s xs few a) (undeclared t ys more b) = one_first f s t xs ys a b

pub no_table : (f : FlatGrammar) (e : NoTable) → HasNoTable f e → HasTable f → ⊥
no_table f e (too_many_states a) has = has.few a
no_table f e (undeclared t xs few b) has = b.undeclared.undeclared (has.declared b.undeclared.read t.0 b.undeclared.conflicts)

pub exact_is : {T : Type 0} (f : FlatGrammar) (r : Result T NoTable) → ((e d : NoTable) → HasNoTable f e → HasNoTable f d → e ≡ d) → ((e : NoTable) → HasNoTable f e → HasTable f → ⊥)
    → IfOk r (λ t. HasTable f) → IfErr r (λ e. (e ≡ Memory) ⊎ HasNoTable f e) → (e : NoTable) → HasNoTable f e → (r ≡ Err e) ⊎ (r ≡ Err Memory)
exact_is f (Ok t) one none has refused e x = absurd (none e x has)
exact_is f (Err d) one none has (inl m) e x = inr (ap (λ z. Err z) m)
exact_is f (Err d) one none has (inr y) e x = inl (ap (λ z. Err z) (one d e y x))
