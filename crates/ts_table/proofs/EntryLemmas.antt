-- The actions of a token, and whether they conflict.
use Rattle.std.proofs.Common.{◌≡◌, ◌∙◌, sym, ap, refl, subst, ℕ, zero, suc, ◌<◌, ◌≤◌, inl, inr, ⊎_elim, List, [], ◌∷◌, ◌++◌, length, map, slice_get, Option, Some, None, arith, ◌↔◌, Bool, true, false}
use Rattle.std.specs.Bool.{IsTrue}
use Rattle.std.specs.Prelude.{MatchOption}
use Rattle.std.specs.Global.{Vec}
use Rattle.std.specs.List.{Contains}
use Rattle.ts_core.specs.declared.action.Action.{Action}
use Rattle.ts_core.specs.declared.action.Action.TheVariants.{Shift, Reduce, Accept}
use Rattle.ts_core.specs.declared.symbol.Symbol.{Symbol}
use Rattle.ts_core.specs.declared.flat.FlatGrammar.{FlatGrammar}
use Rattle.spec_tables.specs.Items.{Item, Valid, advanced, start_item}
use Rattle.spec_tables.specs.Actions.{Shifts, Remains, Move, shift, reduce, accept, Act, may_shift, may_reduce, may_accept, rule_in}
use Rattle.spec_tables.specs.Conflicts.{Conflicts, TakesPart, by_reduction, by_shift, AreRules, IsDeclared, owner_of}
use Rattle.ts_items.specs.declared.part.Items.{Items}
use Rattle.ts_items.specs.Collection.{IsReachedBy, StandsFor}
use Rattle.ts_table.specs.declared.candidates.Candidate.{Candidate}
use Rattle.ts_table.specs.declared.cells.Cell.{Cell}
use Rattle.ts_table.specs.Cells.{shift_in, reductions_in, accept_in, actions_in, number_in}
use Rattle.ts_table.specs.Rules.{owners_in, AreRulesOf, IsOneOf, IsRefusedBy, IsUndeclaredAt}
use Rattle.ts_table.specs.declared.rows.Entry.{Entry}
use Rattle.ts_table.specs.Rows.{IsTokenCell, ActsAt, shift_to, reduce_by, accept_here, IsEntryOn}
use Rattle.ts_table.specs.Tables.{EachOnce}
use Rattle.ts_table.proofs.ListLemmas.{one_at, some_at, at_of, in_of, none_in, append_cases, in_left, in_right}
use Rattle.ts_table.proofs.ItemLemmas.{goto_once, shifts_goto}

in_map : {X Y : Type 0} (f : X → Y) (xs : List X) (y : Y) → Contains (map f xs) y → (x : X) × Contains xs x × (y ≡ f x)
in_map {X} {Y} f xs y h = by xs h.0 (at_of (map f xs) y h)
  where
    by : (zs : List X) (k : ℕ) → slice_get (map f zs) k ≡ Some y → (x : X) × Contains zs x × (y ≡ f x)
    by [] k e = absurd (let x : ◌≡◌ {A = Option Y} None (Some y) = e in cc)
    by (z ∷ zs) zero e = (z, in_of (z ∷ zs) 0 z refl, (let x : Some (f z) ≡ Some y = e in let w : f z ≡ y = cc in sym w))
    by (z ∷ zs) (suc k) e = let w = by zs k e in (w.0, in_of (z ∷ zs) (suc w.1.0) w.0 (at_of zs w.0 w.1), w.2)

map_in : {X Y : Type 0} (f : X → Y) (xs : List X) (x : X) → Contains xs x → Contains (map f xs) (f x)
map_in {X} {Y} f xs x h = by xs h.0 (at_of xs x h)
  where
    by : (zs : List X) (k : ℕ) → slice_get zs k ≡ Some x → Contains (map f zs) (f x)
    by [] k e = absurd (let z : ◌≡◌ {A = Option X} None (Some x) = e in cc)
    by (z ∷ zs) zero e = in_of (map f (z ∷ zs)) 0 (f x) (let w : Some z ≡ Some x = e in let v : z ≡ x = cc in ap (λ (u : X). Some (f u)) v)
    by (z ∷ zs) (suc k) e = let w = by zs k e in in_of (map f (z ∷ zs)) (suc w.0) (f x) (at_of (map f zs) (f x) w)

in_one : {X : Type 0} (x y : X) → Contains (x ∷ []) y → y ≡ x
in_one x y h = by h.0 (at_of (x ∷ []) y h)
  where
    by : (k : ℕ) → slice_get (x ∷ []) k ≡ Some y → y ≡ x
    by zero e = let w : Some x ≡ Some y = e in let v : x ≡ y = cc in sym v
    by (suc k) e = absurd (let z : None ≡ Some y = e in cc)

one_in : {X : Type 0} (x : X) → Contains (x ∷ []) x
one_in x = in_of (x ∷ []) 0 x refl

module _ (g : FlatGrammar) (items : Items) (stands : StandsFor g items) (n : ℕ) (read : List ℕ) (reach : IsReachedBy items read n) (token : ℕ) (cell : Cell) (is : IsTokenCell g items n read token cell)
    (accepts : Bool) (ends : IsTrue accepts ↔ (Valid g read (advanced start_item) × (token ≡ 0))) where
  -- ---- each action does what stays

  from_shift : (o : Option ℕ) (a : Action) → cell.shift ≡ o → Contains (shift_in o) a → ActsAt g items n read token a
  from_shift None a e h = absurd (none_in a h)
  from_shift (Some m) a e h = let w = (is.leads m).0 e in subst (ActsAt g items n read token) (sym (in_one (Shift m) a h)) (shift_to m w.1 w.0)

  from_reduction : (a : Action) → Contains (reductions_in cell.reductions.items) a → ActsAt g items n read token a
  from_reduction a h =
      let w = in_map (λ (c : Candidate). Reduce (number_in c.line)) cell.reductions.items a h in
      let r = is.reduction w.0 w.1 in
      subst (ActsAt g items n read token) (ap Reduce (sym r.2.number_is) ∙ sym w.2) (reduce_by r.1 r.2.stays)

  from_accept : (b : Bool) (a : Action) → accepts ≡ b → Contains (accept_in b) a → ActsAt g items n read token a
  from_accept false a e h = absurd (none_in a h)
  from_accept true a e h = let w = ends.0 e in subst (ActsAt g items n read token) (sym (in_one Accept a h)) (accept_here (may_accept w.1 w.0))

  to_shift : (m : ℕ) (o : Option ℕ) → cell.shift ≡ o → o ≡ Some m → Contains (shift_in o) (Shift m)
  to_shift m o e f = subst (λ (p : Option ℕ). Contains (shift_in p) (Shift m)) (sym f) (one_in (Shift m))

  reduced : (number : ℕ) → Act g read token (reduce number) → (i : Item) × Remains g read token i × (i.line ≡ Some number)
  reduced _ (may_reduce i number r line none) = (i, r, line)

  accepted : Act g read token accept → (token ≡ 0) × Valid g read (advanced start_item)
  accepted (may_accept e v) = (e, v)

  shifted : Act g read token shift → Shifts g read token
  shifted (may_shift s none) = s

  to_action : (a : Action) → ActsAt g items n read token a → Contains (actions_in cell accepts) a
  to_action _ (shift_to m act goto) =
      in_left (shift_in cell.shift ++ reductions_in cell.reductions.items) (accept_in accepts) (Shift m)
      (in_left (shift_in cell.shift) (reductions_in cell.reductions.items) (Shift m) (to_shift m cell.shift refl ((is.leads m).1 (goto, act))))
  to_action _ (reduce_by number act) =
      let r = reduced number act in
      let c = is.reductions r.0 number r.1 r.2 act in
      let f : Candidate → Action = λ c. Reduce (number_in c.line) in
      in_left (shift_in cell.shift ++ reductions_in cell.reductions.items) (accept_in accepts) (Reduce number)
      (in_right (shift_in cell.shift) (reductions_in cell.reductions.items) (Reduce number) (subst (Contains (reductions_in cell.reductions.items)) (ap Reduce c.2.number_is) (map_in f cell.reductions.items c.0 c.1)))
  to_action _ (accept_here act) =
      let w = accepted act in
      in_right (shift_in cell.shift ++ reductions_in cell.reductions.items) (accept_in accepts) Accept
      (subst (λ (b : Bool). Contains (accept_in b) Accept) (sym (ends.1 (w.1, w.0))) (one_in Accept))

  pub exact : (acts : List Action) → ((a : Action) → Contains acts a ↔ Contains (actions_in cell accepts) a) → (a : Action) → Contains acts a ↔ ActsAt g items n read token a
  exact acts members a = (
    (λ h. ⊎_elim
        (λ w. ⊎_elim (λ x. from_shift cell.shift a refl x) (λ x. from_reduction a x) (append_cases (shift_in cell.shift) (reductions_in cell.reductions.items) a w))
        (λ w. from_accept accepts a refl w)
        (append_cases (shift_in cell.shift ++ reductions_in cell.reductions.items) (accept_in accepts) a ((members a).0 h))),
    (λ h. (members a).1 (to_action a h)),
  )

  -- ---- conflicts

  abbrev move_of : Action → Move
  move_of (Shift m) = shift
  move_of (Reduce number) = reduce number
  move_of Accept = accept

  moves : (a : Action) → ActsAt g items n read token a → Act g read token (move_of a)
  moves _ (shift_to m act goto) = act
  moves _ (reduce_by number act) = act
  moves _ (accept_here act) = act

  numbers : (p q : ℕ) → reduce p ≡ reduce q → p ≡ q
  numbers p q e = ap number_of e
    where
      number_of : Move → ℕ
      number_of shift = 0
      number_of (reduce k) = k
      number_of accept = 0

  same_move : (a b : Action) → ActsAt g items n read token a → ActsAt g items n read token b → move_of a ≡ move_of b → a ≡ b
  same_move _ _ (shift_to m act goto) (shift_to k also over) e = ap Shift (goto_once g items stands n token m k goto over)
  same_move _ _ (shift_to m act goto) (reduce_by number also) e = absurd (let f : shift ≡ reduce number = e in cc)
  same_move _ _ (shift_to m act goto) (accept_here also) e = absurd (let f : shift ≡ accept = e in cc)
  same_move _ _ (reduce_by number act) (shift_to k also over) e = absurd (let f : reduce number ≡ shift = e in cc)
  same_move _ _ (reduce_by number act) (reduce_by other also) e = ap Reduce (numbers number other e)
  same_move _ _ (reduce_by number act) (accept_here also) e = absurd (let f : reduce number ≡ accept = e in cc)
  same_move _ _ (accept_here act) (shift_to k also over) e = absurd (let f : accept ≡ shift = e in cc)
  same_move _ _ (accept_here act) (reduce_by number also) e = absurd (let f : accept ≡ reduce number = e in cc)
  same_move _ _ (accept_here act) (accept_here also) e = refl

  action_for : (m : Move) → Act g read token m → (a : Action) × ActsAt g items n read token a × (move_of a ≡ m)
  action_for shift act = let w = shifts_goto g items stands read n token reach (shifted act) in (Shift w.0, shift_to w.0 act w.1, refl)
  action_for (reduce number) act = (Reduce number, reduce_by number act, refl)
  action_for accept act = (Accept, accept_here act, refl)

  module _ (acts : List Action) (ex : (a : Action) → Contains acts a ↔ ActsAt g items n read token a) (once : EachOnce acts) where
    pub conflict_from : 2 ≤ length acts → Conflicts g read token
    conflict_from two =
        let a = some_at acts 0 (omega (arith, two)) in
        let b = some_at acts 1 (omega (arith, two)) in
        let x = (ex a.0).0 (in_of acts 0 a.0 a.1) in
        let y = (ex b.0).0 (in_of acts 1 b.0 b.1) in
        record {
          one = move_of a.0;
          other = move_of b.0;
          one_stays = moves a.0 x;
          other_stays = moves b.0 y;
          apart = λ e. let same = same_move a.0 b.0 x y e in let f = once 0 1 a.0 a.1 (subst (λ (z : Action). slice_get acts 1 ≡ Some z) (sym same) b.1) in omega (arith, f);
        }

    pub conflict_to : Conflicts g read token → length acts < 2 → ⊥
    conflict_to c small =
        let a = action_for c.one c.one_stays in
        let b = action_for c.other c.other_stays in
        let x = (ex a.0).1 a.1 in
        let y = (ex b.0).1 b.1 in
        let lx = x.1 in
        let ly = y.1 in
        let at : x.0 ≡ y.0 = omega (arith, lx, ly, small) in
        let same = one_at acts x.0 a.0 b.0 (at_of acts a.0 x) (subst (λ (k : ℕ). slice_get acts k ≡ Some b.0) (sym at) (at_of acts b.0 y)) in
        c.apart (sym a.2 ∙ ap move_of same ∙ b.2)

  -- ---- the rules

  reduction_there : (number : ℕ) → Act g read token (reduce number) → (c : Candidate) × Contains cell.reductions.items c
  reduction_there number act = let r = reduced number act in let c = is.reductions r.0 number r.1 r.2 act in (c.0, c.1)

  beside_shift : (m : Move) → Act g read token m → (m ≡ shift → ⊥) → Act g read token shift → (c : Candidate) × Contains cell.reductions.items c
  beside_shift shift act apart s = absurd (apart refl)
  beside_shift (reduce number) act apart s = reduction_there number act
  beside_shift accept act apart s = absurd (let e = (accepted act).0 in let lt = (shifted s).is_token.0 in omega (arith, e, lt))

  some_reduction : Conflicts g read token → Act g read token shift → (c : Candidate) × Contains cell.reductions.items c
  some_reduction c s = by c.one refl
    where
      by : (m : Move) → c.one ≡ m → (r : Candidate) × Contains cell.reductions.items r
      by shift e = beside_shift c.other c.other_stays (λ f. c.apart (e ∙ sym f)) s
      by (reduce number) e = beside_shift c.one c.one_stays (λ f. let z : reduce number ≡ shift = sym e ∙ f in cc) s
      by accept e = beside_shift c.one c.one_stays (λ f. let z : accept ≡ shift = sym e ∙ f in cc) s

  abbrev owner : Candidate → Symbol
  owner c = record { 0 = owner_of g c.weight.rule }

  symbol_is : (r : ℕ) (c : Candidate) → c.weight.rule ≡ r → owner c ≡ record { 0 = owner_of g r }
  symbol_is r c e = ap (λ (k : ℕ). let s : Symbol = record { 0 = owner_of g k } in s) e

  module _ (rules : List Symbol) (of : AreRulesOf g cell rules) (conflict : Conflicts g read token) where
    rules_to : (s : ℕ) → TakesPart g read token s → Contains rules (record { 0 = s })
    rules_to _ (by_reduction i number r line act) =
        let c = is.reductions i number r line act in
        (of.members (record { 0 = owner_of g (rule_in g i.line) })).1 (inl (subst (Contains (owners_in g cell.reductions.items)) (symbol_is (rule_in g i.line) c.0 c.2.rule) (map_in owner cell.reductions.items c.0 c.1)))
    rules_to _ (by_shift i si act) =
        let r = some_reduction conflict act in
        let c = is.shift_items r.0 i r.1 si act in
        (of.members (record { 0 = owner_of g (rule_in g i.line) })).1 (inr (subst (Contains (owners_in g cell.shifts.items)) (symbol_is (rule_in g i.line) c.0 c.2) (map_in owner cell.shifts.items c.0 c.1)))

    rules_from : (s : Symbol) → Contains rules s → TakesPart g read token s.0
    rules_from s h = ⊎_elim
        (λ w.
        let c = in_map owner cell.reductions.items s w in
        let r = is.reduction c.0 c.1 in
        subst (λ (x : Symbol). TakesPart g read token x.0) (sym (symbol_is (rule_in g r.0.line) c.0 r.2.rule) ∙ sym c.2) (by_reduction r.0 r.1 r.2.remains r.2.line r.2.stays))
        (λ w.
        let c = in_map owner cell.shifts.items s w in
        let i = is.shift_item c.0 c.1 in
        subst (λ (x : Symbol). TakesPart g read token x.0) (sym (symbol_is (rule_in g i.0.line) c.0 i.3) ∙ sym c.2) (by_shift i.0 i.1 i.2))
        ((of.members s).0 h)

    pub rules_are : AreRules g read token rules
    rules_are s = ((λ h. rules_to s h), (λ h. rules_from (record { 0 = s }) h))

    pub declared_to : IsOneOf g.conflicts rules → IsDeclared g read token
    declared_to w = (w.0, w.1, (λ s. ((λ h. (w.2 (record { 0 = s })).1 (rules_to s h)), (λ h. rules_from (record { 0 = s }) ((w.2 (record { 0 = s })).0 h)))))

    pub declared_from : IsDeclared g read token → IsOneOf g.conflicts rules
    declared_from w = (w.0, w.1, (λ s. ((λ h. rules_to s.0 ((w.2 s.0).1 h)), (λ h. (w.2 s.0).0 (rules_from s h)))))

  pub refused_is : (acts : List Action) (refused : Option (Vec Symbol)) → ((a : Action) → Contains acts a ↔ ActsAt g items n read token a) → EachOnce acts → IsRefusedBy g cell (length acts) refused
      → MatchOption refused (Conflicts g read token → IsDeclared g read token) (λ rules. IsUndeclaredAt g read token rules.items)
  refused_is acts None ex once by = λ c. ⊎_elim (λ small. absurd (conflict_to acts ex once c small)) (λ w. declared_to w.0 w.1 c w.2) by
  refused_is acts (Some rules) ex once by =
      let c = conflict_from acts ex once by.0 in
      record { conflicts = c; rules_are = rules_are rules.items by.1 c; rise = by.1.rise; undeclared = λ d. by.2 (declared_from rules.items by.1 c d) }

pub entry_is : (g : FlatGrammar) (items : Items) (stands : StandsFor g items) (n : ℕ) (read : List ℕ) (reach : IsReachedBy items read n) (token : ℕ) (cell : Cell) (is : IsTokenCell g items n read token cell) (accepts : Bool)
    → IsTrue accepts ↔ (Valid g read (advanced start_item) × (token ≡ 0)) → (e : Entry) → ((a : Action) → Contains e.actions.items a ↔ Contains (actions_in cell accepts) a) → EachOnce e.actions.items → IsRefusedBy g cell (length e.actions.items) e.refused → IsEntryOn g items n read token e
entry_is g items stands n read reach token cell is accepts ends e members once by =
    let ex = exact g items stands n read reach token cell is accepts ends e.actions.items members in
    record { exact = ex; refused = refused_is g items stands n read reach token cell is accepts ends e.actions.items e.refused ex once by }
