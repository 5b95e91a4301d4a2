-- Clients after all their steps.
use Rattle.std.proofs.Common.{◌≡◌, ◌∙◌, sym, ℕ, List, length, slice_get, Some}
use Rattle.atomic_table.specs.Seated.{TableId}
use Rattle.ts_base.specs.Bytes.{Bytes}
use Rattle.ts_core.specs.declared.flat.FlatGrammar.{FlatGrammar}
use Rattle.ts_table.specs.declared.view.ParseTable.{ParseTable}
use Rattle.ts_docs.specs.declared.parsed.ParsedText.{ParsedText}
use Rattle.ts_script.specs.declared.plan.Plan.{Plan}
use Rattle.ts_script.specs.declared.plan.ScriptStep.{ScriptStep}
use Rattle.ts_replies.specs.declared.reply.ShownResult.{ShownResult}
use Rattle.ts_client.specs.Working.{HasWorked}
use Rattle.ts_workers.specs.declared.worker.Worker.{Worker}
use Rattle.ts_workers.specs.Joins.{AreAtShelves}
use Rattle.ts_workers.specs.Workers.{IsHired, AreHired, HaveWorked, IsDone, AreAllDone}
use Rattle.ts_workers.proofs.ListLemmas.{beside}

module _ (Finds : Bytes → List ℕ → List ShownResult → Type 0) (plan : Plan) (g : FlatGrammar) (table : ParseTable) (shelves : List TableId) (versions : List ParsedText)
    (count : length versions ≡ length shelves) where
  is_done : (client : ℕ) (steps : List ScriptStep) (o n : Worker) → IsHired table shelves versions steps o
      → HasWorked Finds plan g client steps o.client.desks.items n.client → IsDone Finds plan g shelves versions client steps n
  is_done client steps o n hired worked = record {
    count = worked.count ∙ hired.may.begins.count;
    each = λ document shelf version d s_is v_is d_is.
        let od = beside n.client.desks.items o.client.desks.items document d worked.count d_is in
        let served = worked.each document od.0 d od.1 d_is in
        let first = hired.may.begins.each document shelf od.0 s_is od.1 in
        let lent = hired.lent document version od.0 v_is od.1 in
        record {
          shelf_is = served.shelf_is ∙ first.may.shelf_is;
          other = served.same.first ∙ lent.other;
          is_pass = served.is_pass;
          served = served.served version lent.opens;
        };
    ends = worked.ends;
  }

  pub are_done : (old new : List Worker) → AreHired table shelves versions plan.clients old → length new ≡ length old
      → HaveWorked Finds plan g old new → AreAllDone Finds plan g shelves versions new
  are_done old new hired same worked = record {
    count = same ∙ hired.count;
    each = λ client steps n s_is n_is.
        let o = beside new old client n same n_is in
        is_done client steps o.0 n (hired.each client steps o.0 s_is o.1) (worked client steps o.0 n s_is o.1 n_is);
  }

  -- the desks of a client are where they were
  pub at_shelves : (workers : List Worker) → AreAllDone Finds plan g shelves versions workers → (client : ℕ) (w : Worker) → slice_get workers client ≡ Some w
      → AreAtShelves shelves w.client.desks.items
  at_shelves workers done client w w_is =
      let steps = beside workers plan.clients client w done.count w_is in
      let own = done.each client steps.0 w steps.1 w_is in
      record {
        count = own.count;
        each = λ document shelf d s_is d_is.
            let version = beside shelves versions document shelf (sym count) s_is in
            let desk = own.each document shelf version.0 d s_is version.1 d_is in
            record { shelf_is = desk.shelf_is; other = desk.other };
      }
