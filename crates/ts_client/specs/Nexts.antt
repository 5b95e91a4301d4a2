-- What a step of a client comes to among its replies.
use Rattle.std.specs.Prelude.{◌≡◌, ℕ, ◌≤◌, List, length, Some}
use Rattle.ts_base.specs.Bytes.{Bytes}
use Rattle.ts_core.specs.declared.flat.FlatGrammar.{FlatGrammar}
use Rattle.ts_shelf.specs.Passes.{IsPass}
use Rattle.ts_docs.specs.declared.parsed.ParsedText.{ParsedText}
use Rattle.ts_docs.specs.Versions.{IsOfTable}
use Rattle.ts_script.specs.declared.plan.Plan.{Plan}
use Rattle.ts_script.specs.declared.plan.ScriptStep.{ScriptStep}
use Rattle.ts_replies.specs.declared.reply.ShownResult.{ShownResult}
use Rattle.ts_replies.specs.declared.reply.Reply.{Reply}
use Rattle.spec_history.specs.Replies.{version_of, most_looks}
use Rattle.spec_clients.specs.Next.{IsNextReply}
use Rattle.spec_clients.specs.Seen.{version_seen}
use Rattle.ts_client.specs.Steps.{Standing}

-- the client holds the version of this number, of a document that was opened with this version and
-- is parsed by the grammar
pub record HoldsSeen (g : FlatGrammar) (opening : ParsedText) (number : ℕ) (st : Standing)
    : Type 0 where
  pub is_pass : IsPass IsOfTable st.knows
  pub opens : st.knows.opening ≡ Some opening
  pub number_is : st.number ≡ number
  pub there : st.number ≤ length st.knows.seen
  pub version_is : st.version ≡ version_seen opening st.knows.seen st.number
  pub grammar_is : st.version.table.grammar ≡ g

-- the reply to a step is a next one of the client, which then holds the version that it tells
pub record IsServedNext (Finds : Bytes → List ℕ → List ShownResult → Type 0) (plan : Plan)
    (g : FlatGrammar) (opening : ParsedText) (client number document before : ℕ) (old : Standing)
    (s : ScriptStep) (r : Reply) (new : Standing) : Type 0 where
  pub turns : List ℕ
  pub few : length turns ≤ most_looks
  pub next : IsNextReply Finds plan g opening client number document before old.knows new.knows
      turns s r
  pub number_now : new.number ≡ version_of r
  pub version_now : new.version ≡ version_seen opening new.knows.seen new.number
