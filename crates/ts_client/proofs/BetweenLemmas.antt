-- A client between two steps, and one step more.
use Rattle.std.proofs.Common.{◌≡◌, ◌∙◌, sym, ap, refl, subst, ℕ, zero, suc, ◌+◌, ◌-◌, ◌*◌, ◌<◌, ◌≤◌, nat_eq, if◌then◌else◌, true, false, Bool, inl, inr, ⊎_elim, List, [], ◌∷◌, ◌++◌, length, take, drop, set, get_or, slice_get, Option, Some, None, option_map, MatchBool, vec_capacity, arith}
use Rattle.std.specs.Option.{option_and_then}
use Rattle.std.proofs.lemmas.Bool.{eq-eqb, MatchBool-at_true}
use Rattle.std.proofs.lemmas.Bool.Decides.{eqb_tells}
use Rattle.std.proofs.lemmas.List.{length-append, length-set}
use Rattle.std.proofs.lemmas.Option.{slice_get_read, slice_get_within, slice_get-map}
use Rattle.std.proofs.Math.Seq.{take-nil}
use Rattle.atomic_table.specs.Seated.{TableId}
use Rattle.ts_base.proofs.PlaceLemmas.{set_here, set_there}
use Rattle.ts_base.specs.Bytes.{Bytes}
use Rattle.ts_core.specs.declared.flat.FlatGrammar.{FlatGrammar}
use Rattle.ts_table.specs.declared.view.ParseTable.{ParseTable}
use Rattle.ts_shelf.specs.declared.view.Knowledge.{Knowledge}
use Rattle.ts_shelf.specs.Entries.{occurrences}
use Rattle.ts_shelf.specs.Passes.{IsPass}
use Rattle.ts_docs.specs.declared.parsed.ParsedText.{ParsedText}
use Rattle.ts_docs.specs.declared.parsed.Drafted.{Drafted}
use Rattle.ts_docs.specs.Versions.{IsOfTable}
use Rattle.ts_script.specs.declared.plan.Plan.{Plan}
use Rattle.ts_script.specs.declared.plan.ScriptStep.{ScriptStep}
use Rattle.ts_script.specs.declared.plan.ScriptStep.TheVariants as step
use Rattle.ts_replies.specs.declared.reply.ShownResult.{ShownResult}
use Rattle.ts_replies.specs.declared.reply.Reply.{Reply}
use Rattle.ts_replies.specs.declared.reply.Reply.TheVariants as reply
use Rattle.spec_history.specs.Replies.{document_of, most_looks}
use Rattle.spec_history.specs.Histories.{asked_at, paired, held_after, accounted_in}
use Rattle.spec_clients.specs.Seen.{version_seen}
use Rattle.spec_clients.specs.Served.{held_at, IsServed}
use Rattle.spec_clients.specs.Next.{TakesThese, HasNoneOf, IsNextReply}
use Rattle.ts_replay.specs.Replays.{AsksAmong, MayReplay}
use Rattle.ts_replay.specs.Runs.{weight_of, edits_on}
use Rattle.ts_client.specs.declared.desk.Desk.{Desk}
use Rattle.ts_client.specs.declared.working.Client.{Client}
use Rattle.ts_client.specs.Between.{IsAtDesk, AreAtDesks, MayServeNext, ChangesDesk, ServesNext, StopsNext}
use Rattle.ts_client.specs.Nexts.{HoldsSeen, IsServedNext}
use Rattle.ts_client.specs.Serving.{MayServe, offers_of}
use Rattle.ts_client.specs.Steps.{standing_at, Serves, StopsEarly}
use Rattle.ts_client.specs.Turns.{SamePass}
use Rattle.ts_client.specs.Working.{IsFirstDesk, IsNewClient, HasServed, HasWorked}
use Rattle.ts_client.proofs.DeskLemmas.{same_self}
use Rattle.ts_client.proofs.HeldLemmas.{paired_none, held_here, held_elsewhere}
use Rattle.ts_client.proofs.ServeLemmas.{held_serves_next}

-- ---- lists

module _ {X : Type 0} where
  same_thing : (x y : X) → Some x ≡ Some y → x ≡ y
  same_thing x y h = cc

  there : (xs : List X) (n : ℕ) → n < length xs → (x : X) × (slice_get xs n ≡ Some x)
  there [] n lt = absurd (let f : ⊥ = omega (arith, lt) in f)
  there (x ∷ xs) zero lt = (x, refl)
  there (x ∷ xs) (suc n) lt = there xs n (omega (arith, lt))

  drop_at : (xs : List X) (n : ℕ) (x : X) → slice_get xs n ≡ Some x → drop n xs ≡ x ∷ drop (suc n) xs
  drop_at [] n x h = absurd (let f : None ≡ Some x = h in cc)
  drop_at (y ∷ xs) zero x h = ap (λ (z : X). z ∷ xs) (same_thing y x h)
  drop_at (y ∷ xs) (suc n) x h = drop_at xs n x h

-- ---- offers

own_offers : (s : ScriptStep) → edits_on (document_of s) s ≡ offers_of s
own_offers (step.Edit document edit) = let e : nat_eq document document ≡ true = eq-eqb document document refl in rw e refl
own_offers (step.Look document) = refl
own_offers (step.Query document queries) = refl
own_offers (step.Tree document) = refl
own_offers (step.Await document version) = refl

module _ (document : ℕ) (steps : List ScriptStep) (replies : List Reply) (s : ScriptStep) (r : Reply) (is : slice_get steps (length replies) ≡ Some s) where
  count_next : length (replies ++ r ∷ []) ≡ length replies + 1
  count_next = length-append replies (r ∷ [])

  edits_next : weight_of (edits_on document) (drop (length replies) steps)
      ≡ edits_on document s + weight_of (edits_on document) (drop (length (replies ++ r ∷ [])) steps)
  edits_next = ap (weight_of (edits_on document)) (drop_at steps (length replies) s is)
      ∙ ap (λ (n : ℕ). edits_on document s + weight_of (edits_on document) (drop n steps)) (let c = count_next in let e : suc (length replies) ≡ length (replies ++ r ∷ []) = omega (arith, c) in e)

-- ---- the laws of replies

abbrev pub NextLaw : (Bytes → List ℕ → List ShownResult → Type 0) → Type 0
NextLaw Finds = (plan : Plan) (g : FlatGrammar) (opening : ParsedText) (client document : ℕ) (steps : List ScriptStep) (replies : List Reply)
    (old new : Knowledge ParsedText Drafted) (turns : List ℕ) (s : ScriptStep) (r : Reply)
    → IsServed Finds plan g opening client document steps replies old → IsPass IsOfTable old
    → slice_get steps (length replies) ≡ Some s → document_of s ≡ document → length new.taken ≤ length steps * most_looks
    → IsNextReply Finds plan g opening client (length replies) document (held_at document steps replies (length replies)) old new turns s r
    → IsServed Finds plan g opening client document steps (replies ++ r ∷ []) new

abbrev pub ElsewhereLaw : (Bytes → List ℕ → List ShownResult → Type 0) → Type 0
ElsewhereLaw Finds = (plan : Plan) (g : FlatGrammar) (opening : ParsedText) (client document : ℕ) (steps : List ScriptStep) (replies : List Reply)
    (k : Knowledge ParsedText Drafted) (s : ScriptStep) (r : Reply)
    → IsServed Finds plan g opening client document steps replies k
    → slice_get steps (length replies) ≡ Some s → (document_of s ≡ document → ⊥)
    → IsServed Finds plan g opening client document steps (replies ++ r ∷ []) k

abbrev pub IdleLaw : (Bytes → List ℕ → List ShownResult → Type 0) → Type 0
IdleLaw Finds = (plan : Plan) (g : FlatGrammar) (opening : ParsedText) (client document : ℕ) (steps : List ScriptStep) (replies : List Reply)
    (old new : Knowledge ParsedText Drafted) (turns : List ℕ)
    → IsServed Finds plan g opening client document steps replies old → IsPass IsOfTable old
    → TakesThese old new turns → HasNoneOf turns new.seen → length new.taken ≤ length steps * most_looks
    → IsServed Finds plan g opening client document steps replies new

module _ (Finds : Bytes → List ℕ → List ShownResult → Type 0) (plan : Plan) (table : ParseTable) (client : ℕ) (steps : List ScriptStep) where
  -- ---- at one desk

  same_then : (a b c : Knowledge ParsedText Drafted) → SamePass a b → SamePass b c → SamePass a c
  same_then a b c p q = record { first = q.first ∙ p.first; out = q.out ∙ p.out; opening = q.opening ∙ p.opening }

  -- before the first step
  first_served : (opening : ParsedText) (document : ℕ) (k : Knowledge ParsedText Drafted) → k.taken ≡ [] → IsServed Finds plan table.grammar opening client document steps [] k
  first_served opening document k none = record {
    held = λ n. let h = nothing_held n in omega (arith, h);
    right = λ n s r p. absurd (no_reply n r p.reply_is);
    told = λ n turn t. absurd (no_reply n t.answer t.replied.reply_is);
    rise = λ n turn m t a b lt. absurd (no_reply n a.answer a.replied.reply_is);
    entered = λ n turn version s p. absurd (no_reply n (reply.Published turn version) p.reply_is);
    own = λ place e is here. absurd (let h : 0 < occurrences e.turn [] = subst (λ (l : List ℕ). 0 < occurrences e.turn l) none here in let f : ⊥ = omega (arith, h) in f);
    accounted = λ turn. let h : accounted_in document turn (paired steps []) ≡ 0 = ap (accounted_in document turn) (paired_none steps) in omega (arith, h);
    few = let h : length k.taken ≡ 0 = ap length none in omega (arith, h);
  }
    where
      no_reply : (n : ℕ) (r : Reply) → slice_get [] n ≡ Some r → ⊥
      no_reply n r h = let f : None ≡ Some r = h in cc

      nothing_held : (n : ℕ) → held_at document steps [] n ≡ 0
      nothing_held n = ap (λ (ps : List (ScriptStep × Reply)). held_after document 0 (take n ps)) (paired_none steps) ∙ ap (held_after document 0) (take-nil n)

  first_desk : (shelf : TableId) (document : ℕ) (d : Desk) → IsFirstDesk table shelf document steps d → IsAtDesk Finds plan table client steps shelf document [] d d
  first_desk shelf document d f = record {
    first_at = f.may.shelf_is;
    may = f.may;
    same = same_self d.pass.knows;
    opens = f.opens;
    number_is = f.number_is;
    version_is = ap (version_seen d.version d.pass.knows.seen) (sym f.number_is);
    served = first_served d.version document d.pass.knows f.none_taken;
    few = let h : length d.pass.knows.taken ≡ 0 = ap length f.none_taken in omega (arith, h);
    offers = f.offers;
  }

  module _ (shelf : TableId) (document : ℕ) (replies : List Reply) (first d : Desk) (at : IsAtDesk Finds plan table client steps shelf document replies first d) where
    -- what is left of the desk
    served_desk : HasServed Finds plan table.grammar client document steps replies first d
    served_desk = record {
      shelf_is = at.may.shelf_is ∙ sym at.first_at;
      is_pass = at.may.is_pass;
      same = at.same;
      served = λ opening opens. subst (λ (v : ParsedText). IsServed Finds plan table.grammar v client document steps replies d.pass.knows)
          (same_thing first.version opening (sym at.opens ∙ at.same.opening ∙ opens)) at.served;
    }

    module _ (s : ScriptStep) (r : Reply) (is : slice_get steps (length replies) ≡ Some s) where
      before : length replies < length steps
      before = slice_get_within steps (length replies) s is

      -- a step on another document
      other_desk : ElsewhereLaw Finds → (document_of s ≡ document → ⊥) → IsAtDesk Finds plan table client steps shelf document (replies ++ r ∷ []) first d
      other_desk law other = record {
        first_at = at.first_at;
        may = at.may;
        same = at.same;
        opens = at.opens;
        number_is = at.number_is ∙ sym (held_elsewhere document steps replies s r is other);
        version_is = at.version_is;
        served = law plan table.grammar first.version client document steps replies d.pass.knows s r at.served is other;
        few = let c = count_next document steps replies s r is in let f = at.few in omega (arith, c, f);
        offers = let e = edits_next document steps replies s r is in let o = at.offers in omega (arith, e, o);
      }

      -- a step on the document
      module _ (after : Desk) (on : document_of s ≡ document) (may : MayServe table shelf after) (same : SamePass d.pass.knows after.pass.knows) where
        own_desk : NextLaw Finds → d.pass.knows.offers ≤ after.pass.knows.offers + offers_of s
            → Serves Finds client (length replies) (standing_at d) s r (standing_at after)
            → IsAtDesk Finds plan table client steps shelf document (replies ++ r ∷ []) first after
        own_desk law left serves = record {
          first_at = at.first_at;
          may = may;
          same = same_then first.pass.knows d.pass.knows after.pass.knows at.same same;
          opens = same.opening ∙ at.opens;
          number_is = next.number_now ∙ sym (held_here document steps replies s r is on);
          version_is = next.version_now;
          served = law plan table.grammar first.version client document steps replies d.pass.knows after.pass.knows next.turns s r at.served at.may.is_pass is on
              (let t = taken in let b = before in omega (arith, t, b)) next.next;
          few = let c = count_next document steps replies s r is in let t = taken in omega (arith, c, t);
          offers =
              let e = edits_next document steps replies s r is in
              let o = at.offers in
              let own : edits_on document s ≡ offers_of s = ap (λ (n : ℕ). edits_on n s) (sym on) ∙ own_offers s in
              omega (arith, e, o, own, left);
        }
          where
            holds : HoldsSeen table.grammar first.version (held_at document steps replies (length replies)) (standing_at d)
            holds = record {
              is_pass = at.may.is_pass;
              opens = at.opens;
              number_is = at.number_is;
              there = at.may.there;
              version_is = at.version_is;
              grammar_is = ap (λ (t : ParseTable). t.grammar) at.may.held;
            }

            next : IsServedNext Finds plan table.grammar first.version client (length replies) document (held_at document steps replies (length replies)) (standing_at d) s r (standing_at after)
            next = held_serves_next Finds plan table.grammar first.version client (length replies) document (held_at document steps replies (length replies))
                (standing_at d) (standing_at after) s r holds serves on (same.opening ∙ at.opens)

            taken : length after.pass.knows.taken ≤ (length replies + 1) * most_looks
            taken =
                let e : length after.pass.knows.taken ≡ length d.pass.knows.taken + length next.turns = ap length next.next.takes.taken ∙ length-append d.pass.knows.taken next.turns in
                let f = at.few in
                let l = next.few in
                omega (arith, e, f, l)

        -- all turns were over
        stopped_desk : IdleLaw Finds → StopsEarly (standing_at d) (standing_at after) → HasServed Finds plan table.grammar client document steps replies first after
        stopped_desk law stops = record {
          shelf_is = may.shelf_is ∙ sym at.first_at;
          is_pass = may.is_pass;
          same = same_then first.pass.knows d.pass.knows after.pass.knows at.same same;
          served = λ opening opens. subst (λ (v : ParsedText). IsServed Finds plan table.grammar v client document steps replies after.pass.knows)
              (same_thing first.version opening (sym at.opens ∙ at.same.opening ∙ opens))
              (law plan table.grammar first.version client document steps replies d.pass.knows after.pass.knows stops.turns at.served at.may.is_pass
              (record { taken = stops.out.idle.taken; extends = stops.out.idle.extends }) stops.out.idle.idle
              (let t = taken in let b = before in omega (arith, t, b)));
        }
          where
            taken : length after.pass.knows.taken ≤ (length replies + 1) * most_looks
            taken =
                let e : length after.pass.knows.taken ≡ length d.pass.knows.taken + length stops.turns = ap length stops.out.idle.taken ∙ length-append d.pass.knows.taken stops.turns in
                let f = at.few in
                let l = stops.few in
                omega (arith, e, f, l)

  -- ---- at all desks

  module _ (shelves : List TableId) where
    pub begins_client : (c : Client) → IsNewClient table shelves steps c → AreAtDesks Finds plan table client steps shelves c.desks.items c
    begins_client c b = record {
      room = b.room;
      few = let h : length c.replies.items ≡ 0 = ap length b.none_replied in omega (arith, h);
      at_first = b.count;
      count = b.count;
      each = λ document shelf o n is_shelf is_first is_now.
          subst (λ (rs : List Reply). IsAtDesk Finds plan table client steps shelf document rs o n) (sym b.none_replied)
          (subst (λ (x : Desk). IsAtDesk Finds plan table client steps shelf document [] o x) (same_thing o n (sym is_first ∙ is_now))
          (first_desk shelf document o (b.each document shelf o is_shelf is_first)));
    }

    module _ (first : List Desk) (old : Client) (at : AreAtDesks Finds plan table client steps shelves first old) where
      -- the desks are as many as there are shelves, so each has one
      shelf_of : (document : ℕ) (o : Desk) → slice_get first document ≡ Some o → (shelf : TableId) × (slice_get shelves document ≡ Some shelf)
      shelf_of document o is = there shelves document (let lt = slice_get_within first document o is in let c = at.at_first in omega (arith, lt, c))

      first_of : (document : ℕ) (shelf : TableId) → slice_get shelves document ≡ Some shelf → (o : Desk) × (slice_get first document ≡ Some o)
      first_of document shelf is = there first document (let lt = slice_get_within shelves document shelf is in let c = at.at_first in omega (arith, lt, c))

      pub may_next : (count : ℕ) → MayReplay plan → count ≡ length plan.queries → slice_get plan.clients client ≡ Some steps → length shelves ≡ length plan.documents
          → length old.replies.items < length steps → MayServeNext count table shelves steps old
      may_next count may count_is steps_are shelves_are more = record {
        step = s.0;
        step_is = s.1;
        shelf = shelf.0;
        shelf_is = shelf.1;
        desk = d.0;
        desk_is = d.1;
        may = desk_at.may;
        offers =
            let e = edits_next (document_of s.0) steps old.replies.items s.0 (reply.Memory 0) s.1 in
            let o = desk_at.offers in
            let own = own_offers s.0 in
            omega (arith, e, o, own);
        asks = subst (λ (n : ℕ). AsksAmong n s.0) (sym count_is) (may.asks client (length old.replies.items) s.0 asked);
        few = let f = may.few client steps steps_are in omega (arith, f);
        room = at.room;
      }
        where
          s : (x : ScriptStep) × (slice_get steps (length old.replies.items) ≡ Some x)
          s = there steps (length old.replies.items) more

          asked : asked_at plan client (length old.replies.items) ≡ Some s.0
          asked = ap (λ (o : Option (List ScriptStep)). option_and_then (λ (l : List ScriptStep). slice_get l (length old.replies.items)) o) steps_are ∙ s.1

          on : document_of s.0 < length shelves
          on = let o = may.on client (length old.replies.items) s.0 asked in omega (arith, o, shelves_are)

          shelf : (x : TableId) × (slice_get shelves (document_of s.0) ≡ Some x)
          shelf = there shelves (document_of s.0) on

          d : (x : Desk) × (slice_get old.desks.items (document_of s.0) ≡ Some x)
          d = there old.desks.items (document_of s.0) (let c = at.count in omega (arith, on, c))

          o : (x : Desk) × (slice_get first (document_of s.0) ≡ Some x)
          o = first_of (document_of s.0) shelf.0 shelf.1

          desk_at : IsAtDesk Finds plan table client steps shelf.0 (document_of s.0) old.replies.items o.0 d.0
          desk_at = at.each (document_of s.0) shelf.0 o.0 d.0 shelf.1 o.1 d.1

      -- no step is left
      pub all_done : length steps ≤ length old.replies.items → HasWorked Finds plan table.grammar client steps first old
      all_done all = record {
        count = at.count ∙ sym at.at_first;
        each = λ document o n is_first is_now.
            let shelf = shelf_of document o is_first in
            served_desk shelf.0 document old.replies.items o n (at.each document shelf.0 o n shelf.1 is_first is_now);
        ends = inl (let f = at.few in omega (arith, f, all));
      }

      module _ (new : Client) (change : ChangesDesk table shelves steps old new) where
        desk_place : document_of change.step < length old.desks.items
        desk_place = slice_get_within old.desks.items (document_of change.step) change.desk change.desk_is

        count_same : length new.desks.items ≡ length old.desks.items
        count_same = ap length change.desks_are ∙ length-set old.desks.items (document_of change.step) change.after

        -- the desk of the step, and the others
        after_there : slice_get new.desks.items (document_of change.step) ≡ Some change.after
        after_there = ap (λ (l : List Desk). slice_get l (document_of change.step)) change.desks_are ∙ set_here old.desks.items (document_of change.step) change.after desk_place

        other_there : (document : ℕ) (n : Desk) → (document_of change.step ≡ document → ⊥) → slice_get new.desks.items document ≡ Some n → slice_get old.desks.items document ≡ Some n
        other_there document n other is =
            sym (set_there old.desks.items (document_of change.step) document change.after (λ e. other (sym e)))
            ∙ sym (ap (λ (l : List Desk). slice_get l document) change.desks_are) ∙ is

        own_at : (document : ℕ) (shelf : TableId) (o : Desk) → document_of change.step ≡ document → slice_get shelves document ≡ Some shelf → slice_get first document ≡ Some o
            → IsAtDesk Finds plan table client steps shelf document old.replies.items o change.desk
        own_at document shelf o on is_shelf is_first =
            at.each document shelf o change.desk is_shelf is_first (ap (slice_get old.desks.items) (sym on) ∙ change.desk_is)

        own_shelf : (document : ℕ) (shelf : TableId) → document_of change.step ≡ document → slice_get shelves document ≡ Some shelf → MayServe table shelf change.after
        own_shelf document shelf on is_shelf =
            subst (λ (x : TableId). MayServe table x change.after) (same_thing change.shelf shelf (sym change.shelf_is ∙ ap (slice_get shelves) on ∙ is_shelf)) change.may

        own_after : (document : ℕ) (n : Desk) → document_of change.step ≡ document → slice_get new.desks.items document ≡ Some n → change.after ≡ n
        own_after document n on is = same_thing change.after n (sym after_there ∙ ap (slice_get new.desks.items) on ∙ is)

        one_less : length old.replies.items < length steps
        one_less = slice_get_within steps (length old.replies.items) change.step change.step_is

    -- a step was done
    pub next_client : (first : List Desk) (old new : Client) → NextLaw Finds → ElsewhereLaw Finds → AreAtDesks Finds plan table client steps shelves first old
        → ServesNext Finds table shelves client steps old new → AreAtDesks Finds plan table client steps shelves first new
    next_client first old new next_law else_law at x = record {
      room = x.at.room;
      few = let e = count in let l = one_less first old at new x.at in omega (arith, e, l);
      at_first = at.at_first;
      count = count_same first old at new x.at ∙ at.count;
      each = λ document shelf o n is_shelf is_first is_now.
          subst (λ (rs : List Reply). IsAtDesk Finds plan table client steps shelf document rs o n) (sym x.replies_are) (each document shelf o n is_shelf is_first is_now);
    }
      where
        count : length new.replies.items ≡ length old.replies.items + 1
        count = ap length x.replies_are ∙ length-append old.replies.items (x.reply ∷ [])

        each : (document : ℕ) (shelf : TableId) (o n : Desk) → slice_get shelves document ≡ Some shelf → slice_get first document ≡ Some o
            → slice_get new.desks.items document ≡ Some n → IsAtDesk Finds plan table client steps shelf document (old.replies.items ++ x.reply ∷ []) o n
        each document shelf o n is_shelf is_first is_now = ⊎_elim
            (λ w. subst (λ (y : Desk). IsAtDesk Finds plan table client steps shelf document (old.replies.items ++ x.reply ∷ []) o y) (own_after first old at new x.at document n w.1 is_now)
            (own_desk shelf document old.replies.items o x.at.desk (own_at first old at new x.at document shelf o w.1 is_shelf is_first) x.at.step x.reply x.at.step_is
            x.at.after w.1 (own_shelf first old at new x.at document shelf w.1 is_shelf) x.at.same next_law x.at.offers x.serves))
            (λ w. other_desk shelf document old.replies.items o n (at.each document shelf o n is_shelf is_first (other_there first old at new x.at document n w.1 is_now))
            x.at.step x.reply x.at.step_is else_law w.1)
            (eqb_tells (document_of x.at.step) document)

    -- all turns of its document were over
    pub stopped_client : (first : List Desk) (old new : Client) → IdleLaw Finds → length shelves ≡ length plan.documents → AreAtDesks Finds plan table client steps shelves first old
        → StopsNext table shelves steps old new → HasWorked Finds plan table.grammar client steps first new
    stopped_client first old new law shelves_are at x = record {
      count = count_same first old at new x.at ∙ at.count ∙ sym at.at_first;
      each = λ document o n is_first is_now.
          subst (λ (rs : List Reply). HasServed Finds plan table.grammar client document steps rs o n) (sym x.replies_are) (each document o n is_first is_now);
      ends = inr (
        document_of x.at.step,
        x.at.after.pass.knows,
        (let lt = slice_get_within shelves (document_of x.at.step) x.at.shelf x.at.shelf_is in omega (arith, lt, shelves_are)),
        slice_get-map (λ (d : Desk). d.pass.knows) new.desks.items (document_of x.at.step) ∙ ap (option_map (λ (d : Desk). d.pass.knows)) (after_there first old at new x.at),
        (let over = x.stops.out.over in omega (arith, over)),
      );
    }
      where
        each : (document : ℕ) (o n : Desk) → slice_get first document ≡ Some o → slice_get new.desks.items document ≡ Some n
            → HasServed Finds plan table.grammar client document steps old.replies.items o n
        each document o n is_first is_now =
            let shelf = shelf_of first old at document o is_first in
            ⊎_elim
            (λ w. subst (λ (y : Desk). HasServed Finds plan table.grammar client document steps old.replies.items o y) (own_after first old at new x.at document n w.1 is_now)
            (stopped_desk shelf.0 document old.replies.items o x.at.desk (own_at first old at new x.at document shelf.0 o w.1 shelf.1 is_first) x.at.step
            (reply.Memory 0) x.at.step_is
            x.at.after w.1 (own_shelf first old at new x.at document shelf.0 w.1 shelf.1) x.at.same law x.stops))
            (λ w. served_desk shelf.0 document old.replies.items o n (at.each document shelf.0 o n shelf.1 is_first (other_there first old at new x.at document n w.1 is_now)))
            (eqb_tells (document_of x.at.step) document)

-- ---- whether there was a turn

pub next_or_stopped : (Finds : Bytes → List ℕ → List ShownResult → Type 0) (plan : Plan) (table : ParseTable) (client : ℕ) (steps : List ScriptStep) (shelves : List TableId)
    (first : List Desk) (old new : Client) (b : Bool) → NextLaw Finds → ElsewhereLaw Finds → IdleLaw Finds → length shelves ≡ length plan.documents
    → AreAtDesks Finds plan table client steps shelves first old → MatchBool b (ServesNext Finds table shelves client steps old new) (StopsNext table shelves steps old new)
    → MatchBool b (AreAtDesks Finds plan table client steps shelves first new) (HasWorked Finds plan table.grammar client steps first new)
next_or_stopped Finds plan table client steps shelves first old new true next elsewhere idle shelves_are at x =
    next_client Finds plan table client steps shelves first old new next elsewhere at x
next_or_stopped Finds plan table client steps shelves first old new false next elsewhere idle shelves_are at x =
    stopped_client Finds plan table client steps shelves first old new idle shelves_are at x

pub one_reply_more : (Finds : Bytes → List ℕ → List ShownResult → Type 0) (table : ParseTable) (client : ℕ) (steps : List ScriptStep) (shelves : List TableId)
    (old new : Client) (b : Bool) → MatchBool b (ServesNext Finds table shelves client steps old new) (StopsNext table shelves steps old new)
    → b ≡ true → length new.replies.items ≡ length old.replies.items + 1
one_reply_more Finds table client steps shelves old new b m told =
    let x = MatchBool-at_true (ServesNext Finds table shelves client steps old new) (StopsNext table shelves steps old new) told m in
    ap length x.replies_are ∙ length-append old.replies.items (x.reply ∷ [])

-- ---- the next step, as it is done

pub pushed : (old new : List Reply) (r : Reply) (b : Bool) → new ≡ (if b then old ++ r ∷ [] else old) → b ≡ true → new ≡ old ++ r ∷ []
pushed old new r b is ok = is ∙ ap (λ (x : Bool). if x then old ++ r ∷ [] else old) ok

-- what stands at these places, before and after
module _ (table : ParseTable) (shelves : List TableId) (steps : List ScriptStep) (old : Client) (count : ℕ) (may : MayServeNext count table shelves steps old)
    (n place : ℕ) (s : ScriptStep) (shelf : TableId) (desk after : Desk)
    (len : n ≡ length old.replies.items) (at_step : s ≡ get_or steps n s) (at_place : place ≡ document_of s)
    (at_shelf : shelf ≡ get_or shelves place shelf) (at_desk : desk ≡ get_or old.desks.items place desk)
    (may_after : MayServe table shelf after) (same : SamePass desk.pass.knows after.pass.knows)
    (offers : desk.pass.knows.offers ≤ after.pass.knows.offers + offers_of s) where
  step_at : slice_get steps (length old.replies.items) ≡ Some s
  step_at = subst (λ (m : ℕ). slice_get steps m ≡ Some s) len
      (slice_get_read steps (length steps) n s refl (let lt = slice_get_within steps (length old.replies.items) may.step may.step_is in omega (arith, lt, len)) at_step)

  place_at : document_of may.step ≡ place
  place_at = ap document_of (same_thing may.step s (sym may.step_is ∙ step_at)) ∙ sym at_place

  shelf_at : slice_get shelves (document_of s) ≡ Some shelf
  shelf_at = subst (λ (m : ℕ). slice_get shelves m ≡ Some shelf) at_place
      (slice_get_read shelves (length shelves) place shelf refl
      (subst (λ (m : ℕ). m < length shelves) place_at (slice_get_within shelves (document_of may.step) may.shelf may.shelf_is)) at_shelf)

  desk_at : slice_get old.desks.items (document_of s) ≡ Some desk
  desk_at = subst (λ (m : ℕ). slice_get old.desks.items m ≡ Some desk) at_place
      (slice_get_read old.desks.items (length old.desks.items) place desk refl
      (subst (λ (m : ℕ). m < length old.desks.items) place_at (slice_get_within old.desks.items (document_of may.step) may.desk may.desk_is)) at_desk)

  module _ (new : Client) (desks_are : new.desks.items ≡ set old.desks.items place after) (room : length steps ≤ vec_capacity new.replies) where
    abbrev change : ChangesDesk table shelves steps old new
    change = record {
      step = s;
      step_is = step_at;
      shelf = shelf;
      shelf_is = shelf_at;
      desk = desk;
      desk_is = desk_at;
      after = after;
      may = may_after;
      same = same;
      offers = offers;
      desks_are = desks_are ∙ ap (λ (m : ℕ). set old.desks.items m after) at_place;
      room = room;
    }

    pub stops_here : StopsEarly (standing_at desk) (standing_at after) → new.replies.items ≡ old.replies.items → StopsNext table shelves steps old new
    stops_here stops replies_are = record { at = change; stops = stops; replies_are = replies_are }

    pub serves_here : (Finds : Bytes → List ℕ → List ShownResult → Type 0) (client m : ℕ) (r : Reply) → m ≡ length old.replies.items
        → Serves Finds client m (standing_at desk) s r (standing_at after) → new.replies.items ≡ old.replies.items ++ r ∷ []
        → ServesNext Finds table shelves client steps old new
    serves_here Finds client m r is serves replies_are = record {
      at = change;
      reply = r;
      serves = subst (λ (k : ℕ). Serves Finds client k (standing_at desk) s r (standing_at after)) is serves;
      replies_are = replies_are;
    }

-- ---- all steps

pub worked_as : (Finds : Bytes → List ℕ → List ShownResult → Type 0) (plan : Plan) (g : FlatGrammar) (client : ℕ) (own steps : List ScriptStep) (first : List Desk) (now : Client)
    → slice_get plan.clients client ≡ Some own → slice_get plan.clients client ≡ Some steps
    → HasWorked Finds plan g client own first now → HasWorked Finds plan g client steps first now
worked_as Finds plan g client own steps first now is given worked =
    subst (λ (l : List ScriptStep). HasWorked Finds plan g client l first now) (same_thing own steps (sym is ∙ given)) worked

pub own_steps : (plan : Plan) (client : ℕ) (all : List (List ScriptStep)) (at steps : List ScriptStep) → all ≡ plan.clients → client < length plan.clients
    → at ≡ get_or all client at → steps ≡ at → slice_get plan.clients client ≡ Some steps
own_steps plan client all at steps is lt read same =
    ap (λ (l : List (List ScriptStep)). slice_get l client) (sym is)
    ∙ slice_get_read all (length all) client at refl (let e : length all ≡ length plan.clients = ap length is in omega (arith, lt, e)) read
    ∙ ap (λ (l : List ScriptStep). Some l) (sym same)

pub fewer_left : (n a b : ℕ) → a < n → b ≡ a + 1 → n - b < n - a
fewer_left n a b lt is = omega (arith, lt, is)
