-- What is known of a desk before and after each step.
use Rattle.std.specs.Prelude.{◌≡◌, ℕ, ◌≤◌, length, Some}
use Rattle.atomic_table.specs.Seated.{TableId}
use Rattle.ts_table.specs.declared.view.ParseTable.{ParseTable}
use Rattle.ts_shelf.specs.Passes.{IsPass}
use Rattle.ts_docs.specs.declared.parsed.ParsedText.{ParsedText}
use Rattle.ts_docs.specs.Versions.{IsOfTable}
use Rattle.ts_script.specs.declared.plan.ScriptStep.{ScriptStep}
use Rattle.ts_script.specs.declared.plan.ScriptStep.TheVariants as step
use Rattle.ts_client.specs.declared.desk.Desk.{Desk}

-- the desk is one at the shelf, of a document whose versions are of the table
pub record MayServe (table : ParseTable) (shelf : TableId) (d : Desk) : Type 0 where
  pub shelf_is : d.pass.shelf ≡ shelf
  pub is_pass : IsPass IsOfTable d.pass.knows
  pub opened : (opening : ParsedText) → d.pass.knows.opening ≡ Some opening
      → opening.table ≡ table
  pub held : d.version.table ≡ table
  -- the version that is held was seen
  pub there : d.number ≤ length d.pass.knows.seen

-- how many offers a step may need
abbrev pub offers_of : ScriptStep → ℕ
offers_of (step.Edit document edit) = 1
offers_of (step.Look document) = 0
offers_of (step.Query document queries) = 0
offers_of (step.Tree document) = 0
offers_of (step.Await document version) = 0
