-- A grammar with the rows of all its sets is a table.
use Rattle.std.proofs.Common.{◌≡◌, ◌∙◌, sym, ap, refl, subst, ℕ, zero, suc, ◌<◌, ◌≤◌, ◌⊎◌, inl, inr, ⊎_elim, List, [], ◌∷◌, length, slice_get, Option, Some, None, arith, ◌↔◌}
use Rattle.std.specs.Prelude.{option_map, unwrap_or}
use Rattle.std.specs.Global.{Vec}
use Rattle.std.specs.List.{Contains}
use Rattle.std.proofs.lemmas.List.{length-map}
use Rattle.std.proofs.lemmas.Option.{slice_get_past}
use Rattle.ts_core.specs.declared.action.Action.{Action}
use Rattle.ts_core.specs.declared.flat.FlatGrammar.{FlatGrammar}
use Rattle.spec_grammar.specs.Symbols.{symbol_count, start_symbol}
use Rattle.spec_tables.specs.Fit.{Fit}
use Rattle.spec_tables.specs.Actions.{shift, reduce, accept}
use Rattle.spec_tables.specs.Conflicts.{Conflicts, IsDeclared}
use Rattle.ts_items.specs.declared.part.Items.{Items}
use Rattle.ts_items.specs.Collection.{IsReachedBy, here, step, IsGoto, StandsFor}
use Rattle.ts_table.specs.declared.arrays.Arrays.{Arrays}
use Rattle.ts_table.specs.declared.arrays.RowPlaces.{RowPlaces}
use Rattle.ts_table.specs.declared.view.ParseTable.{ParseTable}
use Rattle.ts_table.specs.Arrays.{items_at, state_in, placed_row, table_rows, table_of, goto_by, actions_by}
use Rattle.ts_table.specs.Rows.{HoldsList, IsListOn, IsRowAt, AreRowsTo, ActsAt, shift_to, reduce_by, accept_here}
use Rattle.ts_table.specs.Tables.{IsStateOf, at_first, by_goto, ActsBy, shifts, reduces, accepts, EachOnce, IsTable}
use Rattle.ts_table.proofs.ListLemmas.{some_at, none_in}
use Rattle.ts_table.proofs.ViewLemmas.{goto_is, actions_are}
use Rattle.ts_table.proofs.ItemLemmas.{first_there, goto_within, reached_within, reached_once, some_valid, goto_before, before_goto}
use Rattle.ts_table.proofs.RowLemmas.{target_is}
use Rattle.ts_table.proofs.BuildLemmas.{act_token}

held : {X : Type 0} (lists : List (Vec X)) (k : ℕ) (xs : List X) → HoldsList lists k xs → items_at lists k ≡ xs
held {X} lists k xs h = ap (λ (o : Option (Vec X)). unwrap_or (option_map (λ (v : Vec X). v.items) o) []) h.1 ∙ h.2

-- where arrays lead
goto_at : (a : Arrays) (n x : ℕ) (p : RowPlaces) (row : List ℕ) → slice_get a.states.items n ≡ Some p → HoldsList a.gotos.keys p.gotos row → goto_by a n x ≡ unwrap_or (option_map state_in (slice_get row x)) None
goto_at a n x p row at holds =
    ap (λ (o : Option RowPlaces). unwrap_or (option_map (λ (q : RowPlaces). unwrap_or (option_map state_in (slice_get (items_at a.gotos.keys q.gotos) x)) None) o) None) at
    ∙ ap (λ (l : List ℕ). unwrap_or (option_map state_in (slice_get l x)) None) (held a.gotos.keys p.gotos row holds)

goto_past : (a : Arrays) (n x : ℕ) → length a.states.items ≤ n → goto_by a n x ≡ None
goto_past a n x past = ap (λ (o : Option RowPlaces). unwrap_or (option_map (λ (q : RowPlaces). unwrap_or (option_map state_in (slice_get (items_at a.gotos.keys q.gotos) x)) None) o) None) (slice_get_past a.states.items n past)

actions_at : (a : Arrays) (n t : ℕ) (p : RowPlaces) (row : List ℕ) → slice_get a.states.items n ≡ Some p → HoldsList a.actions.keys p.actions row → actions_by a n t ≡ unwrap_or (option_map (items_at a.lists.keys) (slice_get row t)) []
actions_at a n t p row at holds =
    ap (λ (o : Option RowPlaces). unwrap_or (option_map (λ (q : RowPlaces). unwrap_or (option_map (items_at a.lists.keys) (slice_get (items_at a.actions.keys q.actions) t)) []) o) []) at
    ∙ ap (λ (l : List ℕ). unwrap_or (option_map (items_at a.lists.keys) (slice_get l t)) []) (held a.actions.keys p.actions row holds)

actions_past : (a : Arrays) (n t : ℕ) → length a.states.items ≤ n → actions_by a n t ≡ []
actions_past a n t past = ap (λ (o : Option RowPlaces). unwrap_or (option_map (λ (q : RowPlaces). unwrap_or (option_map (items_at a.lists.keys) (slice_get (items_at a.actions.keys q.actions) t)) []) o) []) (slice_get_past a.states.items n past)

slice_get_none : {X : Type 0} (xs : List X) (k : ℕ) → slice_get xs k ≡ None → length xs ≤ k
slice_get_none [] k e = omega arith
slice_get_none (x ∷ xs) zero e = absurd (let z : Some x ≡ None = e in cc)
slice_get_none (x ∷ xs) (suc k) e = let le = slice_get_none xs k e in omega (arith, le)

nothing_once : (xs : List Action) → xs ≡ [] → EachOnce xs
nothing_once xs none j k a aj ak = absurd (let e : None ≡ Some a = subst (λ (l : List Action). slice_get l j ≡ Some a) none aj in cc)

within_or : (n m : ℕ) → (n < m) ⊎ (m ≤ n)
within_or zero zero = inr (omega arith)
within_or zero (suc m) = inl (omega arith)
within_or (suc n) zero = inr (omega arith)
within_or (suc n) (suc m) = ⊎_elim (λ lt. inl (omega (arith, lt))) (λ le. inr (omega (arith, le))) (within_or n m)

module _ (g : FlatGrammar) (items : Items) (a : Arrays) (fit : Fit g) (st : StandsFor g items) (rows : AreRowsTo g items a (length items.states.items)) where
  row_of : (n : ℕ) → n < length items.states.items → (p : RowPlaces) × (slice_get a.states.items n ≡ Some p) × IsRowAt g items a n p
  row_of n lt = let w = some_at a.states.items n (let e = rows.size in omega (arith, lt, e)) in (w.0, w.1, rows.each n w.0 w.1)

  goto_iff : (n x m : ℕ) → n < length items.states.items → (goto_by a n x ≡ Some m) ↔ IsGoto items n x m
  goto_iff n x m lt = by (slice_get r.goto_row x) refl
    where
      r : IsRowAt g items a n (row_of n lt).0
      r = (row_of n lt).2

      by : (o : Option ℕ) → slice_get r.goto_row x ≡ o → (goto_by a n x ≡ Some m) ↔ IsGoto items n x m
      by None e = (
        (λ h. absurd (let z : None ≡ Some m = sym (goto_at a n x (row_of n lt).0 r.goto_row (row_of n lt).1 r.gotos_at ∙ ap (λ (o : Option ℕ). unwrap_or (option_map state_in o) None) e) ∙ h in cc)),
        (λ h. absurd (let lt = (st.inside n h.0 (record { symbol = x; state = m }) h.1 h.2).0 in let past = slice_get_none r.goto_row x e in let size = r.gotos.size in omega (arith, lt, past, size))),
      )
      by (Some k) e =
          let is : goto_by a n x ≡ state_in k = goto_at a n x (row_of n lt).0 r.goto_row (row_of n lt).1 r.gotos_at ∙ ap (λ (o : Option ℕ). unwrap_or (option_map state_in o) None) e in
          let t = target_is items n x k r.state r.goto_row (symbol_count g) r.at st.few (λ j over. goto_within g items st n x j over) r.gotos e m in
          ((λ h. t.0 (sym is ∙ h)), (λ h. is ∙ t.1 h))

  goto_state : (n x m : ℕ) → goto_by a n x ≡ Some m → n < length items.states.items
  goto_state n x m h = ⊎_elim (λ lt. lt) (λ le. absurd (let z : None ≡ Some m = sym (goto_past a n x (let e = rows.size in omega (arith, le, e))) ∙ h in cc)) (within_or n (length items.states.items))

  abbrev t : ParseTable
  t = table_of g a

  to_reached : (read : List ℕ) (n : ℕ) → IsStateOf t read n → IsReachedBy items read n
  to_reached _ _ at_first = here
  to_reached _ _ (by_goto read n x m before over) =
      let h = sym (goto_is g a n x) ∙ over in
      step read n x m (to_reached read n before) ((goto_iff n x m (goto_state n x m h)).0 h)

  from_reached : (read : List ℕ) (n : ℕ) → IsReachedBy items read n → IsStateOf t read n
  from_reached _ _ here = at_first
  from_reached _ _ (step read n x m before over) = by_goto read n x m (from_reached read n before) (goto_is g a n x ∙ (goto_iff n x m (reached_within g items st read n before)).1 over)

  rows_length : length (table_rows a) ≡ length items.states.items
  rows_length = length-map a.states.items (placed_row a) ∙ rows.size

  -- ---- actions

  list_of : (n token : ℕ) → n < length items.states.items → token < start_symbol g → (list : List Action) × (actions_by a n token ≡ list) × IsListOn g items n token list
  list_of n token lt few =
      let w = row_of n lt in
      let r = w.2 in
      let c = some_at r.token_row token (let e = r.actions.size in omega (arith, few, e)) in
      let l = r.actions.each token c.0 c.1 in
      (l.0, actions_at a n token w.0 r.token_row w.1 r.actions_at ∙ ap (λ (o : Option ℕ). unwrap_or (option_map (items_at a.lists.keys) o) []) c.1 ∙ held a.lists.keys c.0 l.0 l.1, l.2)

  no_list : (n token : ℕ) → n < length items.states.items → start_symbol g ≤ token → actions_by a n token ≡ []
  no_list n token lt past =
      let w = row_of n lt in
      let r = w.2 in
      actions_at a n token w.0 r.token_row w.1 r.actions_at ∙ ap (λ (o : Option ℕ). unwrap_or (option_map (items_at a.lists.keys) o) []) (slice_get_past r.token_row token (let e = r.actions.size in omega (arith, past, e)))

  acts_to : (read : List ℕ) (n token : ℕ) (b : Action) → IsReachedBy items read n → ActsAt g items n read token b → ActsBy t read token b
  acts_to read n token _ reach (shift_to m act over) = shifts m act (from_reached (token ∷ read) m (step read n token m reach over))
  acts_to read n token _ reach (reduce_by number act) = reduces number act
  acts_to read n token _ reach (accept_here act) = accepts act

  last_over : (read : List ℕ) (n x m : ℕ) → IsReachedBy items read n → IsReachedBy items (x ∷ read) m → IsGoto items n x m
  last_over read n x _ reach (step _ k _ m before over) = subst (λ (j : ℕ). IsGoto items j x m) (reached_once g items st read k n before reach) over

  acts_from : (read : List ℕ) (n token : ℕ) (b : Action) → IsReachedBy items read n → ActsBy t read token b → ActsAt g items n read token b
  acts_from read n token _ reach (shifts m act s) = shift_to m act (last_over read n token m reach (to_reached (token ∷ read) m s))
  acts_from read n token _ reach (reduces number act) = reduce_by number act
  acts_from read n token _ reach (accepts act) = accept_here act

  acts_few : (read : List ℕ) (token : ℕ) (b : Action) → ActsBy t read token b → token < start_symbol g
  acts_few read token _ (shifts m act s) = act_token g read token shift act
  acts_few read token _ (reduces number act) = act_token g read token (reduce number) act
  acts_few read token _ (accepts act) = act_token g read token accept act

  actions_by_is : (read : List ℕ) (n token : ℕ) (b : Action) → IsReachedBy items read n → Contains (actions_by a n token) b ↔ ActsBy t read token b
  actions_by_is read n token b reach = by (within_or token (start_symbol g))
    where
      by : (token < start_symbol g) ⊎ (start_symbol g ≤ token) → Contains (actions_by a n token) b ↔ ActsBy t read token b
      by o = ⊎_elim
          (λ few.
          let l = list_of n token (reached_within g items st read n reach) few in (
            (λ h. acts_to read n token b reach ((l.2.exact read b reach).0 (subst (λ (xs : List Action). Contains xs b) l.1 h))),
            (λ h. subst (λ (xs : List Action). Contains xs b) (sym l.1) ((l.2.exact read b reach).1 (acts_from read n token b reach h))),
          ))
          (λ past.
          let none = no_list n token (reached_within g items st read n reach) past in
          ((λ h. absurd (none_in b (subst (λ (xs : List Action). Contains xs b) none h))), (λ h. absurd (let few = acts_few read token b h in omega (arith, few, past)))))
          o

  once_by : (n token : ℕ) → EachOnce (actions_by a n token)
  once_by n token = ⊎_elim
      (λ lt. ⊎_elim (λ few. let l = list_of n token lt few in subst EachOnce (sym l.1) l.2.once) (λ past. nothing_once (actions_by a n token) (no_list n token lt past)) (within_or token (start_symbol g)))
      (λ le. nothing_once (actions_by a n token) (actions_past a n token (let e = rows.size in omega (arith, le, e))))
      (within_or n (length items.states.items))

  pub table_stands : ((read : List ℕ) (token : ℕ) → Conflicts g read token → IsDeclared g read token) → IsTable t
  table_stands declared = record {
    fit = fit;
    some = (let e = rows_length in let lt = first_there g items st in omega (arith, e, lt));
    few = (let e = rows_length in let le = st.few in omega (arith, e, le));
    one = λ read m n hm hn. reached_once g items st read m n (to_reached read m hm) (to_reached read n hn);
    complete = λ read i v. let w = st.complete read i v in (w.0, from_reached read w.0 w.1);
    filled = λ read n h. some_valid g items st read n (to_reached read n h);
    inside = λ read n h. let lt = reached_within g items st read n (to_reached read n h) in let e = rows_length in omega (arith, lt, e);
    reached = λ n lt. let w = st.reached n (let e = rows_length in omega (arith, lt, e)) in (w.0, from_reached w.0 n w.2);
    same = λ read other n h k i. let u = st.valid read n (to_reached read n h) i in let v = st.valid other n (to_reached other n k) i in ((λ x. v.0 (u.1 x)), (λ x. u.0 (v.1 x)));
    distinct = λ read other m n h k same.
        let rm = to_reached read m h in
        let rn = to_reached other n k in
        st.distinct m n (reached_within g items st read m rm) (reached_within g items st other n rn)
        (λ i. let u = st.valid read m rm i in let v = st.valid other n rn i in let s = same i in ((λ x. v.1 (s.0 (u.0 x))), (λ x. u.1 (s.1 (v.0 x)))));
    gotos = λ read n x h.
        let r = to_reached read n h in
        let lt = reached_within g items st read n r in (
          (λ w. goto_before g items st read n x w.0 r ((goto_iff n x w.0 lt).0 (sym (goto_is g a n x) ∙ w.1))),
          (λ s. let w = before_goto g items st read n x r s in (w.0, goto_is g a n x ∙ (goto_iff n x w.0 lt).1 w.1)),
        );
    actions = λ read n token b h. subst (λ (xs : List Action). Contains xs b ↔ ActsBy t read token b) (sym (actions_are g a n token)) (actions_by_is read n token b (to_reached read n h));
    once = λ n token. subst EachOnce (sym (actions_are g a n token)) (once_by n token);
    declared = declared;
  }
