-- The version that a client holds never falls.
use Rattle.std.proofs.Common.{ℕ, ◌≤◌, List, Option, arith}
use Rattle.ts_base.specs.Bytes.{Bytes}
use Rattle.ts_core.specs.declared.flat.FlatGrammar.{FlatGrammar}
use Rattle.ts_script.specs.declared.plan.Plan.{Plan}
use Rattle.ts_script.specs.declared.plan.ScriptStep.{ScriptStep}
use Rattle.ts_replies.specs.declared.reply.Reply.{Reply}
use Rattle.ts_replies.specs.declared.reply.ShownResult.{ShownResult}
use Rattle.spec_history.specs.Replies.{document_of, version_of}
use Rattle.spec_history.specs.Histories.{JournalEntry, History, IsAnswered, held_before}
use Rattle.spec_history.specs.Legal.{IsRight, published, newer, range, size, look, await, late, tree, results, absent, memory, Legal}

module _ {Finds : Bytes → List ℕ → List ShownResult → Type 0} where
  -- a right reply tells no older version than was held before
  pub right_is_no_older : {plan : Plan} {g : FlatGrammar} {opening : Bytes}
      {entries : List JournalEntry} {before : ℕ} {last : Option ℕ} (s : ScriptStep) (r : Reply)
      → IsRight Finds plan g opening entries before last s r → before ≤ version_of r
  right_is_no_older _ _ (published document edit turn version can count is) = omega (arith, is)
  right_is_no_older _ _ (newer document edit turn version can shows more) = omega (arith, more)
  right_is_no_older _ _ (range document edit version out is) = omega (arith, is)
  right_is_no_older _ _ (size document edit bytes version over is) = omega (arith, is)
  right_is_no_older _ _ (look document turn version shows) = shows.not_older
  right_is_no_older _ _ (await document wanted turn version shows there) = shows.not_older
  right_is_no_older _ _ (late document wanted turn version shows less all) = shows.not_older
  right_is_no_older _ _ (tree document version outcome shown is) = omega (arith, is)
  right_is_no_older _ _ (results document version queries found has finds is) = omega (arith, is)
  right_is_no_older _ _ (absent document version queries outcome no_tree shown is) = omega (arith, is)
  right_is_no_older _ _ (memory s version is) = omega (arith, is)

  pub held_rises : (h : History) (client number : ℕ) (s : ScriptStep) (r : Reply)
      → Legal Finds h → IsAnswered h client number s r
      → held_before h client number (document_of s) ≤ version_of r
  held_rises h client number s r legal paired =
      right_is_no_older s r (legal.lawful.right client number s r paired).right
