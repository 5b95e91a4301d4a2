use Rattle.ts_ojson.proofs.JsonLemmas.{json_of_array, json_of_object}
use Rattle.ts_ojson.proofs.laws.json_of_parts.Goals as goal

pub returns-clause-array : goal.returns-clause-array
returns-clause-array c = json_of_array

pub returns-clause-object : goal.returns-clause-object
returns-clause-object c = json_of_object
