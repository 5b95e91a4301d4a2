use Rattle.std.proofs.Common.{ℕ, List}
use Rattle.ts_base.specs.Bytes.{Bytes}
use Rattle.ts_top.proofs.PlainLemmas.{FileLaws}
use Rattle.ts_top.proofs.AnswerLemmas.{Laws, clean_is_done, compilable_is_done, play_is_done}
use Rattle.ts_top.proofs.laws.clean_is_done.Goals as goal

pub returns : goal.returns
returns g c =
    let called : List Bytes = g.H.Hosts.called c.args.hosts.now in
    let accepts : ℕ → Bytes → Type 0 = g.H.Hosts.accepts c.args.hosts.now in
    let files : FileLaws = (record {
      breaks_once = c.breaks_once.ensures.place;
      whole = c.breaks_once.ensures.text;
      compiled_once = c.one_compilation.ensures.bytes;
      line_once = c.one_compilation.ensures.line;
      line_or_compiled = c.one_compilation.ensures.either;
    }) in
    let laws : Laws called accepts = (record {
      files = files;
      spelled_once = c.spelled_once.ensures;
      replay_status = c.replays_once.ensures.status;
      replay_bytes = c.replays_once.ensures.bytes;
      run_status = c.runs_once.ensures.status;
      run_bytes = c.runs_once.ensures.bytes;
    }) in
    record {
      parsed = clean_is_done called accepts laws;
      compiled = compilable_is_done called accepts laws;
      played = play_is_done called accepts laws c.clear_is_replayed.ensures c.clear_is_run.ensures;
    }
