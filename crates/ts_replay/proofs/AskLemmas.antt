-- What a step does at a place, whether it asks queries or not, as histories tell it.
use Rattle.std.proofs.Common.{◌≡◌, ap, refl, subst, ℕ, ◌+◌, ◌<◌, ◌≤◌, List, length, Option, Some, arith}
use Rattle.ts_base.specs.Bytes.{Bytes}
use Rattle.ts_core.specs.declared.flat.FlatGrammar.{FlatGrammar}
use Rattle.ts_shelf.specs.Entries.{RisesWithin}
use Rattle.ts_table.specs.declared.view.ParseTable.{ParseTable}
use Rattle.ts_docs.specs.Versions.{IsTextOf}
use Rattle.ts_docs.specs.Steps.{newest}
use Rattle.ts_script.specs.declared.plan.Plan.{Plan}
use Rattle.ts_script.specs.declared.plan.ScriptStep.{ScriptStep}
use Rattle.ts_replies.specs.declared.reply.ShownResult.{ShownResult}
use Rattle.ts_replies.specs.declared.reply.Reply.{Reply}
use Rattle.ts_replies.specs.declared.reply.Reply.TheVariants as reply
use Rattle.spec_history.specs.Books.{journal_of}
use Rattle.spec_history.specs.Replies.{document_of, version_of, most_looks}
use Rattle.spec_history.specs.Histories.{asked_at, version_text}
use Rattle.spec_history.specs.Legal.{IsRight, IsShown, HasTree, results, absent}
use Rattle.spec_history.specs.Orders.{TakesTurns, rests}
use Rattle.ts_replay.specs.Replays.{HasVersions}
use Rattle.ts_replay.specs.Steps.{Place, Does, asks_nothing, finds, has_no_tree}
use Rattle.ts_replay.specs.Runs.{GrowsBy, stays, edits_on}
use Rattle.ts_replay.proofs.DoesLemmas as own

module _ {Finds : Bytes → List ℕ → List ShownResult → Type 0} (client number : ℕ) where
  pub does_grow : (p : Place) (s : ScriptStep) (r : Reply) (q : Place) → Does Finds client number p s r q
      → GrowsBy client number (journal_of p.book) r (journal_of q.book)
  does_grow p _ _ _ (asks_nothing s r q does) = own.does_grow client number p s r q does
  does_grow p _ _ _ (finds document queries found has is) = stays (reply.Results found p.held.number) tt
  does_grow p _ _ _ (has_no_tree document queries outcome none shown) = stays (reply.Absent outcome p.held.number) tt

  pub does_take : (p : Place) (s : ScriptStep) (r : Reply) (q : Place) → Does Finds client number p s r q → TakesTurns p.turn s r q.turn
  does_take p _ _ _ (asks_nothing s r q does) = own.does_take client number p s r q does
  does_take p _ _ _ (finds document queries found has is) = rests refl refl
  does_take p _ _ _ (has_no_tree document queries outcome none shown) = rests refl refl

  pub turn_within : (p : Place) (s : ScriptStep) (r : Reply) (q : Place) → Does Finds client number p s r q → q.turn ≤ p.turn + most_looks
  turn_within p _ _ _ (asks_nothing s r q does) = own.turn_within client number p s r q does
  turn_within p _ _ _ (finds document queries found has is) = omega arith
  turn_within p _ _ _ (has_no_tree document queries outcome none shown) = omega arith

  pub sum_stays : (p : Place) (s : ScriptStep) (r : Reply) (q : Place) → Does Finds client number p s r q
      → q.book.room + length q.book.entries ≡ p.book.room + length p.book.entries
  sum_stays p _ _ _ (asks_nothing s r q does) = own.sum_stays client number p s r q does
  sum_stays p _ _ _ (finds document queries found has is) = refl
  sum_stays p _ _ _ (has_no_tree document queries outcome none shown) = refl

  pub room_within : (p : Place) (s : ScriptStep) (r : Reply) (q : Place) → Does Finds client number p s r q → p.book.room ≤ q.book.room + edits_on (document_of s) s
  room_within p _ _ _ (asks_nothing s r q does) = own.room_within client number p s r q does
  room_within p _ _ _ (finds document queries found has is) = omega arith
  room_within p _ _ _ (has_no_tree document queries outcome none shown) = omega arith

  pub does_rise : (p : Place) (s : ScriptStep) (r : Reply) (q : Place) → Does Finds client number p s r q → RisesWithin 0 p.turn p.book.entries → RisesWithin 0 q.turn q.book.entries
  does_rise p _ _ _ (asks_nothing s r q does) rises = own.does_rise client number p s r q does rises
  does_rise p _ _ _ (finds document queries found has is) rises = rises
  does_rise p _ _ _ (has_no_tree document queries outcome none shown) rises = rises

  pub held_within : (p : Place) (s : ScriptStep) (r : Reply) (q : Place) → Does Finds client number p s r q → p.held.number ≤ length p.book.entries → version_of r ≤ length q.book.entries
  held_within p _ _ _ (asks_nothing s r q does) le = own.held_within client number p s r q does le
  held_within p _ _ _ (finds document queries found has is) le = le
  held_within p _ _ _ (has_no_tree document queries outcome none shown) le = le

  module _ (plan : Plan) (table : ParseTable) (opening : Bytes) where
    pub text_stays : (p : Place) (s : ScriptStep) (r : Reply) (q : Place) → Does Finds client number p s r q → (n : ℕ) → n ≤ length p.book.entries
        → version_text plan opening (journal_of p.book) n ≡ version_text plan opening (journal_of q.book) n
    text_stays p _ _ _ (asks_nothing s r q does) n le = own.text_stays client number plan table opening p s r q does n le
    text_stays p _ _ _ (finds document queries found has is) n le = refl
    text_stays p _ _ _ (has_no_tree document queries outcome none shown) n le = refl

    module _ (p : Place)
        (held : IsTextOf table p.held.number (version_text plan opening (journal_of p.book) p.held.number) p.held)
        (latest : IsTextOf table (length p.book.entries) (version_text plan opening (journal_of p.book) (length p.book.entries)) (newest p.book)) where
      pub held_now : (s : ScriptStep) (r : Reply) (q : Place) → Does Finds client number p s r q → asked_at plan client number ≡ Some s
          → IsTextOf table (version_of r) (version_text plan opening (journal_of q.book) (version_of r)) q.held
      held_now _ _ _ (asks_nothing s r q does) asked = own.held_now client number plan table opening p held latest s r q does asked
      held_now _ _ _ (finds document queries found has is) asked = held
      held_now _ _ _ (has_no_tree document queries outcome none shown) asked = held

      pub latest_now : (s : ScriptStep) (r : Reply) (q : Place) → Does Finds client number p s r q → asked_at plan client number ≡ Some s
          → IsTextOf table (length q.book.entries) (version_text plan opening (journal_of q.book) (length q.book.entries)) (newest q.book)
      latest_now _ _ _ (asks_nothing s r q does) asked = own.latest_now client number plan table opening p held latest s r q does asked
      latest_now _ _ _ (finds document queries found has is) asked = latest
      latest_now _ _ _ (has_no_tree document queries outcome none shown) asked = latest

      pub versions_now : (s : ScriptStep) (r : Reply) (q : Place) → Does Finds client number p s r q → asked_at plan client number ≡ Some s
          → HasVersions plan table opening p.book → HasVersions plan table opening q.book
      versions_now _ _ _ (asks_nothing s r q does) asked versions = own.versions_now client number plan table opening p held latest s r q does asked versions
      versions_now _ _ _ (finds document queries found has is) asked versions = versions
      versions_now _ _ _ (has_no_tree document queries outcome none shown) asked versions = versions

      module _ (rises : RisesWithin 0 p.turn p.book.entries) (there : p.held.number ≤ length p.book.entries)
          (last : Option ℕ) (told : (t : ℕ) → last ≡ Some t → t < p.turn) where
        pub does_right : (s : ScriptStep) (r : Reply) (q : Place) → Does Finds client number p s r q
            → IsRight Finds plan table.grammar opening (journal_of q.book) p.held.number last s r
        does_right _ _ _ (asks_nothing s r q does) = own.does_right client number plan table opening p held latest rises there last told s r q does
        does_right _ _ _ (finds document queries found has is) = results document p.held.number queries found
            (subst (λ (g : FlatGrammar). HasTree g (version_text plan opening (journal_of p.book) p.held.number)) (ap (λ (t : ParseTable). t.grammar) held.table_is)
            (subst (λ (t : Bytes). HasTree p.held.table.grammar t) held.text_is has))
            (subst (λ (t : Bytes). Finds t queries found) held.text_is is) refl
        does_right _ _ _ (has_no_tree document queries outcome none shown) = absent document p.held.number queries outcome
            (subst (λ (g : FlatGrammar). HasTree g (version_text plan opening (journal_of p.book) p.held.number) → ⊥) (ap (λ (t : ParseTable). t.grammar) held.table_is)
            (subst (λ (t : Bytes). HasTree p.held.table.grammar t → ⊥) held.text_is none))
            (subst (λ (g : FlatGrammar). IsShown g (version_text plan opening (journal_of p.book) p.held.number) outcome) (ap (λ (t : ParseTable). t.grammar) held.table_is)
            (subst (λ (t : Bytes). IsShown p.held.table.grammar t outcome) held.text_is shown)) refl
