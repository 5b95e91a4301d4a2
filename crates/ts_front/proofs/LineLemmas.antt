-- The lines hold no float, so that what is written for them is known byte for byte.
use Rattle.std.proofs.Common.{◌≡◌, refl, List, [], ◌∷◌, map, false, codes}
use Rattle.serde_json.specs.Data.{Data, array, object, member, no_members, string}
use Rattle.serde_json.specs.View.{items_of}
use Rattle.serde_json.specs.Written.{has_float, items_have_float}
use Rattle.ts_base.specs.Bytes.{Bytes}
use Rattle.spec_output.specs.Faults.{with_fault, with_status}
use Rattle.spec_output.specs.Lines.{text_list}
use Rattle.spec_output.specs.declared.status.Status.TheVariants.{Grammar}

names_have_none : (names : List Bytes) → items_have_float (items_of (map string names)) ≡ false
names_have_none [] = refl
names_have_none (name ∷ names) = names_have_none names

pub conflict_has_none : (names : List Bytes) (token : Bytes) (all whole : Data) → all ≡ text_list names
    → whole ≡ object (with_fault (codes "conflict") (member (codes "rules") all (with_status Grammar (member (codes "token") (string token) no_members))))
    → has_float whole ≡ false
conflict_has_none names token all whole built is = rw is (rw built (rw (names_have_none names) refl))
