use Rattle.ts_steps.specs.LiveHeads.{read_on}
use Rattle.ts_steps.proofs.MadeLemmas.{line_there}
use Rattle.ts_steps.proofs.reducing.reduce.Goals as goal

pub get-line-requires : goal.get-line-requires
get-line-requires c =
    line_there c.args.table.now c.args.setting.now.size c.args.setting.now c.requires.setting c.args.number (read_on c.args.graph.now c.args.head) (c.laws_hold.ensures.reduces c.args.table.now.grammar (read_on c.args.graph.now c.args.head) c.requires.stays.0 c.args.number c.requires.stays.1)
