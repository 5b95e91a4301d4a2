-- A value can be told from its plain data.
use Rattle.std.proofs.Common.{◌≡◌, ℕ, List, [], ◌∷◌, map, refl, sym, ap, subst, ◌∙◌}
use Rattle.ts_ojson.specs.declared.value.OJson.{OJson}
use Rattle.ts_ojson.specs.declared.value.OJson.TheOpen.{OJson-F}
use Rattle.ts_ojson.specs.declared.value.OJson.TheViews.{roll-OJson}
use Rattle.ts_ojson.specs.declared.value.OJson.TheVariants.{Null, Bool as Boolean, Num, Text, Array, Object, rolls-Null, rolls-Bool, rolls-Num, rolls-Text, rolls-Array, rolls-Object}
use Rattle.ts_ojson.specs.declared.value.OJson.TheFolds.{ind-OJson, map-OJson, claims}
use Rattle.ts_ojson.specs.declared.value.OJson.TheBlock.{the_family, member-OJson}
use Rattle.ts_ojson.specs.Json.{Json, null, boolean, number, string, array, object, Items, no_items, item, Members, no_members, member, json_of, items_of, members_of}
use Rattle.ts_ojson.proofs.JsonLemmas.{json_of_null, json_of_bool, json_of_num, json_of_text, json_of_array, json_of_object}
use denote.Hole.Holds.{Such}

abbrev mutual
  back : Json → OJson
  back null = Null
  back (boolean b) = Boolean b
  back (number s) = Num s
  back (string s) = Text s
  back (array js) = Array (back_items js)
  back (object ms) = Object (back_members ms)

  back_items : Items → List OJson
  back_items no_items = []
  back_items (item j js) = back j ∷ back_items js

  back_members : Members → List (List ℕ × OJson)
  back_members no_members = []
  back_members (member k j ms) = (k, back j) ∷ back_members ms

abbrev IsBack : OJson → Type 0
IsBack v = back (json_of v) ≡ v

abbrev Each : Type 0
Each = Such the_family (claims IsBack) member-OJson

cons_is : (x y : OJson) (xs ys : List OJson) → x ≡ y → xs ≡ ys → x ∷ xs ≡ y ∷ ys
cons_is x y xs ys e f = cc

member_is : (n : List ℕ) (x y : OJson) (xs ys : List (List ℕ × OJson)) → x ≡ y → xs ≡ ys → (n, x) ∷ xs ≡ (n, y) ∷ ys
member_is n x y xs ys e f = ap (λ (z : OJson). (n, z) ∷ xs) e ∙ ap (λ zs. (n, y) ∷ zs) f

each_item : (es : List Each) → back_items (items_of (map json_of (map (λ e. e.0) es))) ≡ map (λ e. e.0) es
each_item [] = refl
each_item (e ∷ es) = let here : IsBack e.0 = e.1 in cons_is (back (json_of e.0)) e.0 _ _ here (each_item es)

each_member : (es : List (List ℕ × Each)) → back_members (members_of (map (λ (m : List ℕ × OJson). (m.0, json_of m.1)) (map (λ (m : List ℕ × Each). (m.0, m.1.0)) es))) ≡ map (λ (m : List ℕ × Each). (m.0, m.1.0)) es
each_member [] = refl
each_member (e ∷ es) = let here : IsBack e.1.0 = e.1.1 in member_is e.0 (back (json_of e.1.0)) e.1.0 _ _ here (each_member es)

layer : (y : OJson-F Each) → IsBack (roll-OJson (map-OJson Each OJson (λ e. e.0) y))
layer OJson-F.Null = ap back (ap json_of rolls-Null ∙ json_of_null) ∙ sym rolls-Null
layer (OJson-F.Bool b) = ap back (ap json_of (rolls-Bool b) ∙ json_of_bool b) ∙ sym (rolls-Bool b)
layer (OJson-F.Num s) = ap back (ap json_of (rolls-Num s) ∙ json_of_num s) ∙ sym (rolls-Num s)
layer (OJson-F.Text s) = ap back (ap json_of (rolls-Text s) ∙ json_of_text s) ∙ sym (rolls-Text s)
layer (OJson-F.Array es) =
    let js = map (λ e. e.0) es in
    ap back (ap json_of (rolls-Array js) ∙ json_of_array js) ∙ ap Array (each_item es) ∙ sym (rolls-Array js)
layer (OJson-F.Object es) =
    let ms = map (λ (m : List ℕ × Each). (m.0, m.1.0)) es in
    ap back (ap json_of (rolls-Object ms) ∙ json_of_object ms) ∙ ap Object (each_member es) ∙ sym (rolls-Object ms)

pub is_back : (v : OJson) → IsBack v
is_back v = ind-OJson IsBack (λ x y e. subst (λ (z : OJson-F OJson). IsBack (roll-OJson z)) e (layer y)) v

-- values of the same plain data are one
pub one_json : (v u : OJson) → json_of v ≡ json_of u → v ≡ u
one_json v u e = sym (is_back v) ∙ ap back e ∙ is_back u
