-- What each verdict leaves.
use Rattle.std.proofs.Common.{◌≡◌, ◌∙◌, sym, ap, refl, subst, ℕ, ◌<◌, ◌≤◌, inr, ⊎_elim, Bool, true, false, List, [], ◌++◌, length, Option, Some, None, ◌↔◌}
use Rattle.std.specs.Bool.{IsTrue}
use Rattle.ts_core.specs.declared.action.Action.{Action}
use Rattle.std.specs.Global.{Vec}
use Rattle.std.specs.List.{Contains}
use Rattle.ts_core.specs.declared.symbol.Symbol.{Symbol}
use Rattle.ts_core.specs.declared.flat.FlatGrammar.{FlatGrammar}
use Rattle.ts_table.specs.declared.candidates.Candidate.{Candidate}
use Rattle.ts_table.specs.declared.cells.Cell.{Cell}
use Rattle.ts_table.specs.declared.deciding.Verdict.{Verdict}
use Rattle.ts_table.specs.declared.deciding.Verdict.TheVariants.{Shift, Reduce, Both}
use Rattle.ts_table.specs.Deciding.{ShiftWins, ReduceWins}
use Rattle.ts_table.specs.Cells.{AreRivals, IsCellOf, shift_in, reductions_in, accept_in, actions_in}
use Rattle.ts_table.specs.Rules.{owners_in, AreRulesOf, AreRisen, AreSameSymbols, IsOneOf, IsRefusedBy}
use Rattle.ts_table.proofs.ListLemmas.{false_not_true, none_in, some_in, append_cases, in_left, in_right}

no_state_of : (m : ℕ) → ◌≡◌ {A = Option ℕ} None (Some m) → ⊥
no_state_of m e = cc

none_of_nil : (xs : List Candidate) (c : Candidate) → xs ≡ [] → Contains xs c → ⊥
none_of_nil xs c e h = none_in c (subst (λ (l : List Candidate). Contains l c) e h)

module _ (g : FlatGrammar) (next : ℕ) (shifts kept : List Candidate) (v : Verdict) (some : 0 < length kept) (ws : (v ≡ Shift) ↔ ShiftWins g (Contains shifts) (Contains kept)) (wr : (v ≡ Reduce) ↔ ReduceWins g (Contains shifts) (Contains kept)) (cell : Cell) where
  rivals : AreRivals (Some next) (Contains kept)
  rivals = ((next, refl), some_in kept some)

  pub cell_shift : v ≡ Shift → cell.shift ≡ Some next → cell.reductions.items ≡ [] → cell.shifts.items ≡ shifts → IsCellOf g (Some next) (Contains shifts) (Contains kept) cell
  cell_shift e es er ei = record {
    shift = λ m. ((λ h. (sym es ∙ h, (λ ro. let f : Shift ≡ Reduce = sym e ∙ wr.1 ro.1 in cc))), (λ w. es ∙ w.0));
    reductions = λ c. ((λ h. absurd (none_of_nil cell.reductions.items c er h)), (λ w. absurd (w.1 (rivals, ws.0 e))));
    shifts = λ c. ((λ h. (subst (λ (l : List Candidate). Contains l c) ei h, (next, es))), (λ w. subst (λ (l : List Candidate). Contains l c) (sym ei) w.0));
  }

  pub cell_reduce : v ≡ Reduce → cell.shift ≡ None → cell.reductions.items ≡ kept → cell.shifts.items ≡ [] → IsCellOf g (Some next) (Contains shifts) (Contains kept) cell
  cell_reduce e es er ei = record {
    shift = λ m. ((λ h. absurd (no_state_of m (sym es ∙ h))), (λ w. absurd (w.1 (rivals, wr.0 e))));
    reductions = λ c. ((λ h. (subst (λ (l : List Candidate). Contains l c) er h, (λ so. let f : Reduce ≡ Shift = sym e ∙ ws.1 so.1 in cc))), (λ w. subst (λ (l : List Candidate). Contains l c) (sym er) w.0));
    shifts = λ c. ((λ h. absurd (none_of_nil cell.shifts.items c ei h)), (λ w. absurd (no_state_of w.1.0 (sym es ∙ w.1.1))));
  }

  pub cell_both : v ≡ Both → cell.shift ≡ Some next → cell.reductions.items ≡ kept → cell.shifts.items ≡ shifts → IsCellOf g (Some next) (Contains shifts) (Contains kept) cell
  cell_both e es er ei = record {
    shift = λ m. ((λ h. (sym es ∙ h, (λ ro. let f : Both ≡ Reduce = sym e ∙ wr.1 ro.1 in cc))), (λ w. es ∙ w.0));
    reductions = λ c. ((λ h. (subst (λ (l : List Candidate). Contains l c) er h, (λ so. let f : Both ≡ Shift = sym e ∙ ws.1 so.1 in cc))), (λ w. subst (λ (l : List Candidate). Contains l c) (sym er) w.0));
    shifts = λ c. ((λ h. (subst (λ (l : List Candidate). Contains l c) ei h, (next, es))), (λ w. subst (λ (l : List Candidate). Contains l c) (sym ei) w.0));
  }

-- without a shift
pub cell_none : (g : FlatGrammar) (target : Option ℕ) (S R : Candidate → Type 0) (kept : List Candidate) (cell : Cell) → target ≡ None → ((c : Candidate) → Contains kept c ↔ R c) → cell.shift ≡ None → cell.reductions.items ≡ kept → cell.shifts.items ≡ [] → IsCellOf g target S R cell
cell_none g target S R kept cell none same es er ei = record {
  shift = λ m. ((λ h. absurd (no_state_of m (sym es ∙ h))), (λ w. absurd (no_state_of m (sym none ∙ w.0))));
  reductions = λ c. (
    (λ h. ((same c).0 (subst (λ (l : List Candidate). Contains l c) er h), (λ so. no_state_of so.0.0.0 (sym none ∙ so.0.0.1)))),
    (λ w. subst (λ (l : List Candidate). Contains l c) (sym er) ((same c).1 w.0)),
  );
  shifts = λ c. ((λ h. absurd (none_of_nil cell.shifts.items c ei h)), (λ w. absurd (no_state_of w.1.0 (sym es ∙ w.1.1))));
}

-- the rules of both kinds
pub rules_both : (g : FlatGrammar) (cell : Cell) (old new : List Symbol) → old ≡ owners_in g cell.reductions.items ++ owners_in g cell.shifts.items → AreRisen old new → AreRulesOf g cell new
rules_both g cell old new is risen = record {
  members = λ s. (
    (λ h. append_cases (owners_in g cell.reductions.items) (owners_in g cell.shifts.items) s (subst (λ (l : List Symbol). Contains l s) is ((risen.members s).0 h))),
    (λ w. (risen.members s).1 (subst (λ (l : List Symbol). Contains l s) (sym is) (⊎_elim (λ h. in_left (owners_in g cell.reductions.items) (owners_in g cell.shifts.items) s h) (λ h. in_right (owners_in g cell.reductions.items) (owners_in g cell.shifts.items) s h) w))),
  );
  rise = risen.rise;
}

pub owners_made : (g : FlatGrammar) (cell : Cell) (l0 l1 l2 : List Symbol) (rs ss : List Candidate) → l0 ≡ [] → rs ≡ cell.reductions.items → l1 ≡ l0 ++ owners_in g rs → ss ≡ cell.shifts.items → l2 ≡ l1 ++ owners_in g ss → l2 ≡ owners_in g cell.reductions.items ++ owners_in g cell.shifts.items
owners_made g cell l0 l1 l2 rs ss none er e1 es e2 =
    e2 ∙ ap (λ (l : List Symbol). l ++ owners_in g ss) (e1 ∙ ap (λ (l : List Symbol). l ++ owners_in g rs) none)
    ∙ ap (λ (l : List Candidate). owners_in g l ++ owners_in g ss) er ∙ ap (λ (l : List Candidate). owners_in g cell.reductions.items ++ owners_in g l) es

pub actions_made : (cell : Cell) (accepts : Bool) (l0 l1 l2 l3 : List Action) (rs : List Candidate) → l0 ≡ [] → l1 ≡ l0 ++ shift_in cell.shift → rs ≡ cell.reductions.items → l2 ≡ l1 ++ reductions_in rs → l3 ≡ l2 ++ accept_in accepts
    → (r : List Action) → ((a : Action) → Contains r a ↔ Contains l3 a) → (a : Action) → Contains r a ↔ Contains (actions_in cell accepts) a
actions_made cell accepts l0 l1 l2 l3 rs none e1 er e2 e3 r members a =
    let is : l3 ≡ actions_in cell accepts =
    e3 ∙ ap (λ (l : List Action). l ++ accept_in accepts) (e2 ∙ ap (λ (l : List Action). l ++ reductions_in rs) (e1 ∙ ap (λ (l : List Action). l ++ shift_in cell.shift) none) ∙ ap (λ (l : List Candidate). shift_in cell.shift ++ reductions_in l) er) in
    subst (λ (l : List Action). Contains r a ↔ Contains l a) is (members a)

-- ---- lists with the same symbols

pub same_not : (a b : List Symbol) (x : Bool) → x ≡ false → IsTrue x ↔ ((s : Symbol) → Contains a s → Contains b s) → IsTrue false ↔ AreSameSymbols a b
same_not a b x e test = ((λ t. absurd (false_not_true t)), (λ same. absurd (false_not_true (sym e ∙ test.1 (λ s h. (same s).0 h)))))

pub same_both : (a b : List Symbol) (x y : Bool) → x ≡ true → IsTrue x ↔ ((s : Symbol) → Contains a s → Contains b s) → IsTrue y ↔ ((s : Symbol) → Contains b s → Contains a s) → IsTrue y ↔ AreSameSymbols a b
same_both a b x y e to from = ((λ t s. ((λ h. to.0 e s h), (λ h. from.0 t s h))), (λ same. from.1 (λ s h. (same s).1 h)))

pub set_test : (x l rules : List Symbol) (b : Bool) → l ≡ x → IsTrue b ↔ AreSameSymbols l rules → IsTrue b ↔ AreSameSymbols x rules
set_test x l rules b e test = subst (λ (z : List Symbol). IsTrue b ↔ AreSameSymbols z rules) e test

pub refused_declared : (g : FlatGrammar) (cell : Cell) (n : ℕ) (rules l : List Symbol) (sets : List (List Symbol)) (b : Bool) → AreRulesOf g cell rules → l ≡ rules → sets ≡ g.conflicts → IsTrue b ↔ IsOneOf sets l → b ≡ true → IsRefusedBy g cell n None
refused_declared g cell n rules l sets b of el es test yes' = inr (rules, of, subst (λ (z : List Symbol). IsOneOf g.conflicts z) el (subst (λ (z : List (List Symbol)). IsOneOf z l) es (test.0 yes')))

pub refused_not : (g : FlatGrammar) (cell : Cell) (n : ℕ) (rules : Vec Symbol) (l : List Symbol) (sets : List (List Symbol)) (b : Bool) → 2 ≤ n → AreRulesOf g cell rules.items → l ≡ rules.items → sets ≡ g.conflicts → IsTrue b ↔ IsOneOf sets l → b ≡ false → IsRefusedBy g cell n (Some rules)
refused_not g cell n rules l sets b two of el es test no' = (two, of, (λ h. false_not_true (sym no' ∙ test.1 (subst (λ (z : List (List Symbol)). IsOneOf z l) (sym es) (subst (λ (z : List Symbol). IsOneOf g.conflicts z) (sym el) h)))))

-- ---- over equal lists

pub iff_at : (P : Type 0) (Q : List Candidate → List Candidate → Type 0) (a b c d : List Candidate) → a ≡ c → b ≡ d → P ↔ Q a b → P ↔ Q c d
iff_at P Q a b c d ea eb h = subst (λ (x : List Candidate). P ↔ Q x d) ea (subst (λ (y : List Candidate). P ↔ Q a y) eb h)
