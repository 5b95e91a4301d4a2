use Rattle.ts_ojson.specs.Json.{json_of}
use Rattle.ts_ojson.proofs.InverseLemmas.{one_json}
use Rattle.ts_ojson.proofs.TextLemmas.{one_text}
use Rattle.ts_ojson.proofs.laws.one_value.Goals as goal

pub returns-clause-text : goal.returns-clause-text
returns-clause-text c j i w g h = one_text j i w g h

pub returns-clause-read : goal.returns-clause-read
returns-clause-read c v u w g h = one_json v u (one_text (json_of v) (json_of u) w g.text h.text)
