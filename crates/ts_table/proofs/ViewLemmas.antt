-- The rows that contracts see, by the arrays that hold them.
use Rattle.std.proofs.Common.{◌≡◌, ◌∙◌, sym, ap, refl, subst, ℕ, ◌≤◌, List, [], ◌∷◌, length, map, slice_get, Option, Some, None, arith, ◌↔◌, false, true}
use Rattle.std.specs.Prelude.{unwrap_or, option_map, sum, IfSome, IsSome}
use Rattle.std.proofs.lemmas.Option.{slice_get-map, slice_get_within, get_or_from_slice_get}
use Rattle.std.proofs.lemmas.List.Sums.{sum-map, get_or-le-sum_by}
use Rattle.std.specs.List.{sum_by}
use Rattle.ts_core.specs.declared.action.Action.{Action}
use Rattle.ts_core.specs.declared.flat.FlatGrammar.{FlatGrammar}
use Rattle.ts_table.specs.declared.arrays.Arrays.{Arrays}
use Rattle.ts_table.specs.declared.arrays.RowPlaces.{RowPlaces}
use Rattle.ts_table.specs.declared.view.ParseTable.{ParseTable}
use Rattle.ts_table.specs.declared.view.StateRow.{StateRow}
use Rattle.ts_table.specs.Arrays.{items_at, state_in, placed_row, table_of, goto_by, actions_by}
use Rattle.ts_table.specs.Tables.{goto_of, actions_of, most_actions, IsStateOf, by_goto, StandsBefore, ActsBy, EachOnce, IsTable}
use Rattle.std.specs.List.{Contains}

pub goto_is : (g : FlatGrammar) (a : Arrays) (n x : ℕ) → goto_of (table_of g a) n x ≡ goto_by a n x
goto_is g a n x =
    ap (λ (o : Option StateRow). unwrap_or (option_map (λ (row : StateRow). unwrap_or (slice_get row.gotos x) None) o) None) (slice_get-map (placed_row a) a.states.items n)
    ∙ by (slice_get a.states.items n)
  where
    by : (o : Option RowPlaces) → unwrap_or (option_map (λ (row : StateRow). unwrap_or (slice_get row.gotos x) None) (option_map (placed_row a) o)) None
        ≡ unwrap_or (option_map (λ (places : RowPlaces). unwrap_or (option_map state_in (slice_get (items_at a.gotos.keys places.gotos) x)) None) o) None
    by None = refl
    by (Some p) = ap (λ (o : Option (Option ℕ)). unwrap_or o None) (slice_get-map state_in (items_at a.gotos.keys p.gotos) x)

pub actions_are : (g : FlatGrammar) (a : Arrays) (n t : ℕ) → actions_of (table_of g a) n t ≡ actions_by a n t
actions_are g a n t =
    ap (λ (o : Option StateRow). unwrap_or (option_map (λ (row : StateRow). unwrap_or (slice_get row.actions t) []) o) []) (slice_get-map (placed_row a) a.states.items n)
    ∙ by (slice_get a.states.items n)
  where
    by : (o : Option RowPlaces) → unwrap_or (option_map (λ (row : StateRow). unwrap_or (slice_get row.actions t) []) (option_map (placed_row a) o)) []
        ≡ unwrap_or (option_map (λ (places : RowPlaces). unwrap_or (option_map (items_at a.lists.keys) (slice_get (items_at a.actions.keys places.actions) t)) []) o) []
    by None = refl
    by (Some p) = ap (λ (o : Option (List Action)). unwrap_or o []) (slice_get-map (items_at a.lists.keys) (items_at a.actions.keys p.actions) t)

-- ---- no list of actions is longer than all together

at_most : {X : Type 0} (f : X → ℕ) (xs : List X) (k : ℕ) (x : X) → slice_get xs k ≡ Some x → f x ≤ sum (map f xs)
at_most {X} f xs k x h = subst (λ (n : ℕ). f x ≤ n) (sym (sum-map f xs)) (subst (λ (y : X). f y ≤ sum_by f xs) (get_or_from_slice_get xs k x x h) (get_or-le-sum_by f xs k x (slice_get_within xs k x h)))

abbrev of_row : StateRow → ℕ
of_row row = sum (map (λ (list : List Action). length list) row.actions)

pub few_actions : (t : ParseTable) (n token : ℕ) → length (actions_of t n token) ≤ most_actions t
few_actions t n token = by (slice_get t.rows n) refl
  where
    inner : (row : StateRow) → (o : Option (List Action)) → slice_get row.actions token ≡ o → length (unwrap_or o []) ≤ of_row row
    inner row None e = omega arith
    inner row (Some list) e = at_most (λ (l : List Action). length l) row.actions token list e

    by : (o : Option StateRow) → slice_get t.rows n ≡ o → length (unwrap_or (option_map (λ (row : StateRow). unwrap_or (slice_get row.actions token) []) o) []) ≤ most_actions t
    by None e = omega arith
    by (Some row) e =
        let p = at_most of_row t.rows n row e in
        let q = inner row (slice_get row.actions token) refl in
        omega (arith, p, q)

-- ---- one more symbol

pub leads_on : (t : ParseTable) (read : List ℕ) (n x : ℕ) (o : Option ℕ) → o ≡ goto_of t n x → IsStateOf t read n → IfSome o (IsStateOf t (x ∷ read))
leads_on t read n x None e h = search
leads_on t read n x (Some m) e h = by_goto read n x m h (sym e)

pub some_goto : (P : Type 0) (o p : Option ℕ) → o ≡ p → ((m : ℕ) × (p ≡ Some m)) ↔ P → IsSome o ↔ P
some_goto P None p e same = ((λ h. absurd (let z : false ≡ true = h in cc)), (λ h. let w = same.1 h in absurd (let z : None ≡ Some w.0 = e ∙ w.1 in cc)))
some_goto P (Some m) p e same = ((λ h. same.0 (m, sym e)), (λ h. refl))

-- ---- what a table tells of itself

pub list_is : (t : ParseTable) (g : FlatGrammar) (a : Arrays) (n x : ℕ) (list : List Action) → table_of g a ≡ t → list ≡ actions_by a n x → list ≡ actions_of t n x
list_is t g a n x list same is = is ∙ sym (actions_are g a n x) ∙ ap (λ (u : ParseTable). actions_of u n x) same

pub next_is : (t : ParseTable) (g : FlatGrammar) (a : Arrays) (n x : ℕ) (o : Option ℕ) → table_of g a ≡ t → o ≡ goto_by a n x → o ≡ goto_of t n x
next_is t g a n x o same is = is ∙ sym (goto_is g a n x) ∙ ap (λ (u : ParseTable). goto_of u n x) same

pub exact_actions : (t : ParseTable) (n x : ℕ) (list : List Action) → IsTable t → list ≡ actions_of t n x → (read : List ℕ) (b : Action) → IsStateOf t read n → Contains list b ↔ ActsBy t read x b
exact_actions t n x list table is read b h = subst (λ (l : List Action). Contains l b ↔ ActsBy t read x b) (sym is) (table.actions read n x b h)

pub once_each : (t : ParseTable) (n x : ℕ) (list : List Action) → IsTable t → list ≡ actions_of t n x → EachOnce list
once_each t n x list table is = subst EachOnce (sym is) (table.once n x)

pub few_each : (t : ParseTable) (n x : ℕ) (list : List Action) → list ≡ actions_of t n x → length list ≤ most_actions t
few_each t n x list is = subst (λ (l : List Action). length l ≤ most_actions t) (sym is) (few_actions t n x)

pub exact_goto : (t : ParseTable) (n x : ℕ) (o : Option ℕ) → IsTable t → o ≡ goto_of t n x → (read : List ℕ) → IsStateOf t read n → IsSome o ↔ StandsBefore t.grammar read x
exact_goto t n x o table is read h = some_goto (StandsBefore t.grammar read x) o (goto_of t n x) is (table.gotos read n x h)
