-- A run from its documents to its books.
use Rattle.std.proofs.Common.{◌≡◌, ◌∙◌, sym, ap, subst, ℕ, List, ◌++◌, length, take, drop, slice_get, Some}
use Rattle.std.proofs.lemmas.List.{length-map}
use Rattle.atomic_table.specs.Seated.{TableId}
use Rattle.ts_base.specs.Bytes.{Bytes}
use Rattle.ts_table.specs.declared.view.ParseTable.{ParseTable}
use Rattle.ts_docs.specs.declared.parsed.Pages.{Pages}
use Rattle.ts_script.specs.declared.plan.Plan.{Plan}
use Rattle.ts_replies.specs.declared.reply.ShownResult.{ShownResult}
use Rattle.ts_replies.specs.declared.reply.Reply.{Reply}
use Rattle.spec_clients.specs.Joined.{AreJoined, AreVersionsOf}
use Rattle.ts_replay.specs.Replays.{MayReplay, AreBooks, history_of}
use Rattle.ts_workers.specs.declared.front.Front.{Front}
use Rattle.ts_workers.specs.declared.worker.Worker.{Worker}
use Rattle.ts_workers.specs.Fronts.{AreFronts, versions_of}
use Rattle.ts_workers.specs.Joins.{AreOnShelves, AreAtShelves, HaveJoined, AreClosed}
use Rattle.ts_workers.specs.Workers.{AreHired, HaveWorked, AreAllDone, all_passes, all_replies}
use Rattle.ts_workers.proofs.DoneLemmas.{are_done, at_shelves}
use Rattle.ts_workers.proofs.EndLemmas.{alone, are_joined, have_versions}
use Rattle.ts_workers.proofs.FrontLemmas.{are_on_shelves}
use Rattle.ts_workers.proofs.JoinLemmas.{still_on_shelves}
use Rattle.ts_workers.proofs.ListLemmas.{whole}

-- a whole vector that was handed on as a slice
whole_by : {X : Type 0} (n : ℕ) (new old : List X) → n ≡ length old → length new ≡ length old → take n (new ++ drop (length new) old) ≡ new
whole_by {X} n new old n_is same = ap (λ (k : ℕ). take k (new ++ drop (length new) old)) n_is ∙ whole new old same

module _ (Finds : Bytes → List ℕ → List ShownResult → Type 0) (plan : Plan) (table : ParseTable) (openings : List Bytes)
    (may : MayReplay plan) (given : length openings ≡ length plan.documents)
    (shelves : List TableId) (first : List Front) (n : ℕ) (n_is : n ≡ length first) (opened : AreFronts plan table openings shelves 0 first)
    (shelves_then : List TableId) (shelves_then_is : shelves_then ≡ shelves) (first_then : List Front) (first_then_is : first_then ≡ first)
    (fronts : List Front) (hands : List Worker) (m : ℕ) (m_is : m ≡ length hands)
    (fronts_are : (o : List Bytes) → AreFronts plan table o shelves_then 0 first_then → AreFronts plan table o shelves_then (length plan.clients) fronts)
    (hired : AreHired table shelves_then (versions_of fronts) plan.clients hands)
    (hands_then : List Worker) (hands_then_is : hands_then ≡ hands) (workers : List Worker) (same : length workers ≡ length hands_then)
    (worked : HaveWorked Finds plan table.grammar hands_then workers)
    (shelves_now : List TableId) (shelves_now_is : shelves_now ≡ shelves) (fronts_now : List Front) (fronts_now_is : fronts_now ≡ take n (fronts ++ drop (length fronts) first)) where
  are : AreFronts plan table openings shelves (length plan.clients) fronts
  are = subst (λ (s : List TableId). AreFronts plan table openings s (length plan.clients) fronts) shelves_then_is
      (fronts_are openings
      (subst (λ (s : List TableId). AreFronts plan table openings s 0 first_then) (sym shelves_then_is)
      (subst (λ (l : List Front). AreFronts plan table openings shelves 0 l) (sym first_then_is) opened)))

  as_many : length fronts ≡ length first
  as_many = are.count ∙ sym opened.count

  all_fronts : take n (fronts ++ drop (length fronts) first) ≡ fronts
  all_fronts = whole_by n fronts first n_is as_many

  fronts_same : fronts_now ≡ fronts
  fronts_same = fronts_now_is ∙ all_fronts

  as_many_workers : length workers ≡ length hands
  as_many_workers = same ∙ ap (λ (l : List Worker). length l) hands_then_is

  all_workers : take m (workers ++ drop (length workers) hands) ≡ workers
  all_workers = whole_by m workers hands m_is as_many_workers

  versions_count : length (versions_of fronts) ≡ length shelves
  versions_count = length-map fronts (λ (f : Front). f.version) ∙ are.count

  done : AreAllDone Finds plan table.grammar shelves (versions_of fronts) workers
  done = are_done Finds plan table.grammar table shelves (versions_of fronts) versions_count hands workers
      (subst (λ (s : List TableId). AreHired table s (versions_of fronts) plan.clients hands) shelves_then_is hired)
      as_many_workers
      (subst (λ (l : List Worker). HaveWorked Finds plan table.grammar l workers) hands_then_is worked)

  on : AreOnShelves shelves fronts
  on = are_on_shelves plan table openings shelves (length plan.clients) fronts are

  pub on_shelves : AreOnShelves shelves_now fronts_now
  on_shelves = subst (λ (s : List TableId). AreOnShelves s fronts_now) (sym shelves_now_is) (subst (λ (l : List Front). AreOnShelves shelves l) (sym fronts_same) on)

  pub desks_are : (client : ℕ) (w : Worker) → slice_get (take m (workers ++ drop (length workers) hands)) client ≡ Some w → AreAtShelves shelves_now w.client.desks.items
  desks_are client w w_is =
      subst (λ (s : List TableId). AreAtShelves s w.client.desks.items) (sym shelves_now_is)
      (at_shelves Finds plan table.grammar table shelves (versions_of fronts) versions_count workers done client w
      (subst (λ (l : List Worker). slice_get l client ≡ Some w) all_workers w_is))

  module _ (left : List Front) (joined_now : HaveJoined (all_passes (take m (workers ++ drop (length workers) hands))) fronts_now left) where
    joined : HaveJoined (all_passes workers) fronts left
    joined = subst (λ (l : List Worker). HaveJoined (all_passes l) fronts left) all_workers
        (subst (λ (l : List Front). HaveJoined (all_passes (take m (workers ++ drop (length workers) hands))) l left) fronts_same joined_now)

    all_left : take n (left ++ drop (length left) (take n (fronts ++ drop (length fronts) first))) ≡ left
    all_left = ap (λ (l : List Front). take n (left ++ drop (length left) l)) all_fronts ∙ whole_by n left fronts (n_is ∙ sym as_many) joined.count

    pub still_on : AreOnShelves shelves (take n (left ++ drop (length left) (take n (fronts ++ drop (length fronts) first))))
    still_on = subst (λ (l : List Front). AreOnShelves shelves l) (sym all_left) (still_on_shelves shelves (all_passes workers) fronts left on joined)

    pub left_alone : (document : ℕ) (f : Front) → slice_get (take n (left ++ drop (length left) (take n (fronts ++ drop (length fronts) first)))) document ≡ Some f → f.pass.knows.out ≡ 0
    left_alone document f f_is =
        alone Finds plan table openings shelves fronts left workers may given are done joined document f (subst (λ (l : List Front). slice_get l document ≡ Some f) all_left f_is)

    module _ (books : List Pages) (closed_now : AreClosed (take n (left ++ drop (length left) (take n (fronts ++ drop (length fronts) first)))) books)
        (replies : List (List Reply)) (replies_are : replies ≡ all_replies (take m (workers ++ drop (length workers) hands))) where
      closed : AreClosed left books
      closed = subst (λ (l : List Front). AreClosed l books) all_left closed_now

      replies_same : replies ≡ all_replies workers
      replies_same = replies_are ∙ ap all_replies all_workers

      pub lawful : AreJoined Finds (history_of plan table.grammar openings books replies) table books (all_passes workers)
      lawful = subst (λ (r : List (List Reply)). AreJoined Finds (history_of plan table.grammar openings books r) table books (all_passes workers)) (sym replies_same)
          (are_joined Finds plan table openings shelves fronts left workers may given are done joined books closed)

      pub books_are : AreVersionsOf (history_of plan table.grammar openings books replies) table books → AreBooks plan table openings books
      books_are versions = have_versions Finds plan table openings shelves fronts left workers may given are done joined books closed
          (subst (λ (r : List (List Reply)). AreVersionsOf (history_of plan table.grammar openings books r) table books) replies_same versions)
