-- Faults of a grammar file, listed in the order in which they count. Each pointer begins at the
-- value that is judged.
use Rattle.std.specs.Prelude.{ℕ, suc, List, [], ◌∷◌, ◌++◌, map, Option, Some, None}
use Rattle.ts_base.specs.Bytes.{Bytes}
use Rattle.ts_ojson.specs.Json.{Json, array, Items, no_items, item}
use Rattle.ts_grammar_json.specs.declared.fault.GFault.{GFault}
use Rattle.ts_grammar_json.specs.declared.fault.GFault.TheVariants.{Missing, Wrong, UnknownType, External, Reserved, Limit, Memory}
use Rattle.ts_grammar_json.specs.Pointer.{step, place}

-- the fault of a value, seen from a value that is this step above it
abbrev pub from_above : Bytes → GFault → GFault
from_above way (Missing pointer) = Missing (way ++ pointer)
from_above way (Wrong pointer) = Wrong (way ++ pointer)
from_above way (UnknownType pointer) = UnknownType (way ++ pointer)
from_above way External = External
from_above way Reserved = Reserved
from_above way (Limit limited) = Limit limited
from_above way Memory = Memory

-- the faults of a value, seen from a value that is this step above it
abbrev pub under : Bytes → List GFault → List GFault
under way faults = map (from_above way) faults

-- the fault that is answered
abbrev pub first : List GFault → Option GFault
first [] = None
first (fault ∷ faults) = Some fault

-- the value itself is of another kind
abbrev pub wrong : List GFault
wrong = Wrong [] ∷ []

-- the value is of another kind where nothing is read of it, and else it has no fault
abbrev pub wrong_if_none : {X : Type 0} → Option X → List GFault
wrong_if_none None = wrong
wrong_if_none (Some x) = []

-- the value has to be of this kind
abbrev pub be : {X : Type 0} → (Json → Option X) → Json → List GFault
be kind value = wrong_if_none (kind value)

-- a member has to be there, and its value is judged by this
abbrev pub must : Bytes → (Json → List GFault) → Option Json → List GFault
must name judged None = Missing (step name) ∷ []
must name judged (Some value) = under (step name) (judged value)

-- a member may be there, and its value is then judged by this
abbrev pub may : Bytes → (Json → List GFault) → Option Json → List GFault
may name judged None = []
may name judged (Some value) = under (step name) (judged value)

-- items are judged by this one after another, the first of them at place k
abbrev pub each_from : ℕ → (Json → List GFault) → Items → List GFault
each_from k judged no_items = []
each_from k judged (item j js) = under (place k) (judged j) ++ each_from (suc k) judged js

-- an array has to be there, and its items are judged by this
abbrev pub list : (Json → List GFault) → Json → List GFault
list judged (array js) = each_from 0 judged js
list judged _ = wrong
