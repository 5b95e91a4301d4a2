-- What there is on a token on which a set does nothing.
use Rattle.std.proofs.Common.{sym, refl, ℕ, ◌+◌, List, [], ◌∷◌, ◌++◌, Option, None, arith, ◌↔◌}
use Rattle.std.specs.Global.{Vec}
use Rattle.std.specs.List.{Contains}
use Rattle.std.proofs.lemmas.Option.{slice_get_within}
use Rattle.ts_core.specs.declared.action.Action.{Action}
use Rattle.ts_core.specs.declared.flat.FlatGrammar.{FlatGrammar}
use Rattle.spec_grammar.specs.Symbols.{symbol_count}
use Rattle.spec_tables.specs.Actions.{Move, Act, may_shift, may_reduce, may_accept, shift, reduce, accept}
use Rattle.ts_items.specs.declared.part.Items.{Items}
use Rattle.ts_items.specs.Collection.{IsReachedBy}
use Rattle.ts_items.specs.Sets.{HasAt}
use Rattle.ts_table.specs.declared.candidates.Candidate.{Candidate}
use Rattle.ts_table.specs.declared.marks.Marks.{Marks}
use Rattle.ts_table.specs.declared.refusals.Refusal.{Refusal}
use Rattle.ts_table.specs.declared.rows.Ready.{Ready}
use Rattle.ts_table.specs.Arrays.{no_state}
use Rattle.ts_table.specs.Candidates.{PicksFrom}
use Rattle.ts_table.specs.Rows.{IsReadySet, DoesNothingOn, IsSource, ActsAt, shift_to, reduce_by, accept_here, IsListOn, HoldsList, AreListPlaces, IsLeastTo}
use Rattle.ts_table.proofs.ListLemmas.{none_in}
use Rattle.ts_table.proofs.ItemLemmas.{goto_within, shifts_goto}
use Rattle.ts_table.proofs.CandidateLemmas.{reductions_are}
use Rattle.ts_table.proofs.RowLemmas.{state_is, target_is, accepts_is}
use Rattle.ts_table.proofs.BuildLemmas.{places_more, least_more, grows_not}

module _ (g : FlatGrammar) (m : Marks) (items : Items) (set : Ready) (token : ℕ) (source : IsSource g m items) (ready : IsReadySet g items set) (idle : DoesNothingOn set token) where
  no_candidate : (c : Candidate) → Contains [] c ↔ PicksFrom g set.complete.items (λ q. HasAt items.tokens.keys q.tokens token) c
  no_candidate c = ((λ h. absurd (none_in c h)), (λ w. absurd (idle.1 ((ready.ends token).1 (w.0, w.1, w.2)))))

  -- nothing stays on the token
  pub none_acts : (read : List ℕ) → IsReachedBy items read set.at → (move : Move) → Act g read token move → ⊥
  none_acts read reach _ (may_shift s none) =
      let st = source.sets in
      let w = shifts_goto g items st read set.at token reach s in
      let e = (target_is items set.at token no_state ready.state set.gotos.items (symbol_count g) ready.at st.few (λ j v. goto_within g items st set.at token j v) ready.gotos idle.0 w.0).1 w.1 in
      let k = state_is no_state w.0 e in
      k.1 (sym k.0)
  none_acts read reach _ (may_reduce i number r line none) =
      let all = (reductions_are g items source.sets set.at ready.state ready.at read reach token set.complete.items [] ready.complete no_candidate).all i r.reduces in
      none_in all.0 all.1
  none_acts read reach _ (may_accept e v) = idle.2 (ready.accepts.1 ((accepts_is g items source.sets set.at ready.state read ready.at reach).1 v), e)

  none_done : (read : List ℕ) → IsReachedBy items read set.at → (a : Action) → ActsAt g items set.at read token a → ⊥
  none_done read reach _ (shift_to next act goto) = none_acts read reach shift act
  none_done read reach _ (reduce_by number act) = none_acts read reach (reduce number) act
  none_done read reach _ (accept_here act) = none_acts read reach accept act

  pub idle_list : IsListOn g items set.at token []
  idle_list = record {
    exact = λ read a reach. ((λ h. absurd (none_in a h)), (λ d. absurd (none_done read reach a d)));
    once = λ j k a at other. absurd (let lt = slice_get_within [] j a at in omega (arith, lt));
  }

  pub idle_row : (lists : List (Vec Action)) (row : List ℕ) (place : ℕ) → AreListPlaces g items set.at lists token row → HoldsList lists place [] → AreListPlaces g items set.at lists (token + 1) (row ++ place ∷ [])
  idle_row lists row place are holds = places_more g items set.at token lists lists row place [] (grows_not lists) are holds idle_list

  pub idle_least : (old : Option Refusal) → IsLeastTo g items set.at token old → IsLeastTo g items set.at (token + 1) old
  idle_least old h = least_more g items source.sets set.at token (slice_get_within items.states.items set.at ready.state ready.at) old None old (λ read reach c. absurd (none_acts read reach c.one c.one_stays)) refl h
