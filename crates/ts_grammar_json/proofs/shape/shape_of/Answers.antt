use Rattle.ts_grammar_json.specs.Members.{members_json}
use Rattle.ts_grammar_json.specs.Found.{looked_of}
use Rattle.ts_grammar_json.proofs.ShapeLemmas.{gives_is_shape}
use Rattle.ts_grammar_json.proofs.shape.shape_of.Goals as goal

pub returns : goal.returns
returns c = gives_is_shape (members_json c.args.members.now) c.in_ok-kind.kind (looked_of c.of-found.result) c.typed.result c.of-found.ensures c.in_ok-kind.ensures.ok c.typed.ensures
