-- `json_of`, one law for each variant.
use Rattle.std.proofs.Common.{◌≡◌, ◌∙◌, ap, sym, ℕ, Bool, List, map}
use Rattle.ts_ojson.specs.declared.value.OJson.{OJson}
use Rattle.ts_ojson.specs.declared.value.OJson.TheOpen.{OJson-F}
use Rattle.ts_ojson.specs.declared.value.OJson.TheVariants.{Null, Bool as Boolean, Num, Text, Array, Object, rolls-Null, rolls-Bool, rolls-Num, rolls-Text, rolls-Array, rolls-Object}
use Rattle.ts_ojson.specs.declared.value.OJson.TheFolds.{fold-roll-OJson}
use Rattle.ts_ojson.specs.Json.{Json, null, boolean, number, string, array, object, items_of, members_of, json_step, json_of}

pub json_of_null : json_of Null ≡ null
json_of_null = ap json_of (sym rolls-Null) ∙ fold-roll-OJson Json json_step OJson-F.Null

pub json_of_bool : (b : Bool) → json_of (Boolean b) ≡ boolean b
json_of_bool b = ap json_of (sym (rolls-Bool b)) ∙ fold-roll-OJson Json json_step (OJson-F.Bool b)

pub json_of_num : (s : List ℕ) → json_of (Num s) ≡ number s
json_of_num s = ap json_of (sym (rolls-Num s)) ∙ fold-roll-OJson Json json_step (OJson-F.Num s)

pub json_of_text : (s : List ℕ) → json_of (Text s) ≡ string s
json_of_text s = ap json_of (sym (rolls-Text s)) ∙ fold-roll-OJson Json json_step (OJson-F.Text s)

pub json_of_array : (js : List OJson) → json_of (Array js) ≡ array (items_of (map json_of js))
json_of_array js = ap json_of (sym (rolls-Array js)) ∙ fold-roll-OJson Json json_step (OJson-F.Array js)

pub json_of_object : (ms : List (List ℕ × OJson)) → json_of (Object ms) ≡ object (members_of (map (λ m. (m.0, json_of m.1)) ms))
json_of_object ms = ap json_of (sym (rolls-Object ms)) ∙ fold-roll-OJson Json json_step (OJson-F.Object ms)
