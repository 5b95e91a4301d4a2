-- Lists whose items are read one after another: what holds when those before a place are read
-- without fault.
use Rattle.std.proofs.Common.{◌≡◌, ◌∙◌, sym, ap, ℕ, suc, ◌+◌, ◌<◌, add-one, List, [], ◌∷◌, ◌++◌, append_assoc, length, get_or, drop, drop-cons, Option, Some, None, Result, Bor, subst}
use Rattle.ts_base.specs.Bytes.{Bytes}
use Rattle.ts_ojson.specs.declared.value.OJson.{OJson}
use Rattle.ts_ojson.specs.Json.{Json, json_of, Items, item}
use Rattle.ts_grammar_json.specs.declared.fault.GFault.{GFault}
use Rattle.ts_grammar_json.specs.Pointer.{step, place}
use Rattle.ts_grammar_json.specs.Members.{items_json}
use Rattle.ts_grammar_json.specs.Faults.{under, first, must, may}
use Rattle.ts_grammar_json.specs.Found.{Gives, json_at}

-- the faults of a whole array are those from this place on, and what is read of it are these and
-- then the rest
pub record SoFar {X : Type 0} (faults : ℕ → Items → List GFault) (read_all : Items → List X) (all : List OJson) (i : ℕ) (out : List X) : Type 0 where
  pub none_yet : faults 0 (items_json all) ≡ faults i (items_json (drop i all))
  pub read_yet : read_all (items_json all) ≡ out ++ read_all (items_json (drop i all))

items_split : (all : List OJson) (i : ℕ) (a : OJson) → i < length all → a ≡ get_or all i a → items_json (drop i all) ≡ item (json_of a) (items_json (drop (suc i) all))
items_split all i a lt at = ap items_json (drop-cons all i a lt ∙ ap (λ (y : OJson). y ∷ drop (suc i) all) (sym at))

pub first_before : (own inner : List GFault) (fault : GFault) → first own ≡ Some fault → first (own ++ inner) ≡ Some fault
first_before [] inner fault is = absurd (let apart : None ≡ Some fault = is in cc)
first_before (one ∷ own) inner fault is = is

module _ {X : Type 0} (faults : ℕ → Items → List GFault) (read_all : Items → List X) (judged : Json → List GFault) (read : Json → X)
    (faults_law : (k : ℕ) (j : Json) (js : Items) → faults k (item j js) ≡ under (place k) (judged j) ++ faults (suc k) js)
    (read_law : (j : Json) (js : Items) → read_all (item j js) ≡ read j ∷ read_all js) where
  pub next : (all : List OJson) (i : ℕ) (a : OJson) (out : List X) (x : X) → i < length all → a ≡ get_or all i a
      → under (place i) (judged (json_of a)) ≡ [] → x ≡ read (json_of a) → SoFar faults read_all all i out → SoFar faults read_all all (i + 1) (out ++ x ∷ [])
  next all i a out x lt at none is so = record {
    none_yet =
        so.none_yet
        ∙ ap (faults i) (items_split all i a lt at)
        ∙ faults_law i (json_of a) (items_json (drop (suc i) all))
        ∙ ap (λ (own : List GFault). own ++ faults (suc i) (items_json (drop (suc i) all))) none
        ∙ ap (λ (k : ℕ). faults k (items_json (drop k all))) (sym (add-one i));
    read_yet =
        so.read_yet
        ∙ ap (λ (js : Items). out ++ read_all js) (items_split all i a lt at)
        ∙ ap (λ (ys : List X). out ++ ys) (read_law (json_of a) (items_json (drop (suc i) all)))
        ∙ ap (λ (y : X). out ++ y ∷ read_all (items_json (drop (suc i) all))) (sym is)
        ∙ sym (append_assoc out (x ∷ []) (read_all (items_json (drop (suc i) all))))
        ∙ ap (λ (k : ℕ). (out ++ x ∷ []) ++ read_all (items_json (drop k all))) (sym (add-one i));
  }

  pub stops : (all : List OJson) (i : ℕ) (a : OJson) (out : List X) (fault : GFault) → i < length all → a ≡ get_or all i a
      → first (under (place i) (judged (json_of a))) ≡ Some fault → SoFar faults read_all all i out → first (faults 0 (items_json all)) ≡ Some fault
  stops all i a out fault lt at is so =
      ap first (so.none_yet ∙ ap (faults i) (items_split all i a lt at) ∙ faults_law i (json_of a) (items_json (drop (suc i) all)))
      ∙ first_before (under (place i) (judged (json_of a))) (faults (suc i) (items_json (drop (suc i) all))) fault is

-- ---- members that may be there, or have to be

pub seen_some : (value : Option (Bor OJson)) (r : Bor OJson) → value ≡ Some r → json_at value ≡ Some (json_of r.now)
seen_some value r is = ap (λ (o : Option (Bor OJson)). json_at o) is

pub may_gives : {X : Type 0} (name : Bytes) (judged : Json → List GFault) (read : Option Json → X) (v : Option Json) (j : Json) (r : Result X GFault)
    → v ≡ Some j → Gives (under (step name) (judged j)) (read (Some j)) r → Gives (may name judged v) (read v) r
may_gives {X = X} name judged read v j r is gives = subst (λ (o : Option Json). Gives (may name judged o) (read o) r) (sym is) gives

pub must_gives : {X : Type 0} (name : Bytes) (judged : Json → List GFault) (read : Option Json → X) (v : Option Json) (j : Json) (r : Result X GFault)
    → v ≡ Some j → Gives (under (step name) (judged j)) (read (Some j)) r → Gives (must name judged v) (read v) r
must_gives {X = X} name judged read v j r is gives = subst (λ (o : Option Json). Gives (must name judged o) (read o) r) (sym is) gives
