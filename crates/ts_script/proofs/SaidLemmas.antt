-- A line says one thing at most: its object tells the form, and in each form the members tell the rest.
use Rattle.std.proofs.Common.{◌≡◌, ◌∙◌, sym, ap, refl, ℕ, zero, suc, ◌<◌, List, [], ◌∷◌, ◌++◌, map, All, Bool, true, false, Option, Some, None, option_and_then, is_some, codes, get_or, length, arith}
use Rattle.std.proofs.lemmas.List.Elements.{All-head, All-tail}
use Rattle.serde_json.specs.Data.{Data, number, unsigned, string, array, object, Items, no_items, item, Members, no_members, member}
use Rattle.serde_json.specs.Find.{get, get_member, as_str}
use Rattle.serde_json.specs.View.{view, items_of}
use Rattle.serde_json.specs.declared.value.Value.{Value}
use Rattle.ts_base.specs.Bytes.{Bytes}
use Rattle.ts_script.specs.declared.said.Action.{Action}
use Rattle.ts_script.specs.declared.said.Action.TheVariants as action
use Rattle.ts_script.specs.declared.said.ActionForm.{ActionForm}
use Rattle.ts_script.specs.declared.said.Form.{Form}
use Rattle.ts_script.specs.declared.said.Form.TheVariants as form
use Rattle.ts_script.specs.declared.said.Piece.{Piece}
use Rattle.ts_script.specs.declared.said.Said.{Said}
use Rattle.ts_script.specs.declared.said.Said.TheVariants.{Text, Path, Load, Step}
use Rattle.ts_script.specs.Forms.{line_form, action_form, form_named, action_named}
use Rattle.ts_script.specs.Said.{Says, whole, piece_data, said_members, action_members}

-- ---- the form

-- the form that the members tell
abbrev pub form_in : Data → Option Form
form_in d =
    option_and_then (λ (word : Bytes). form_named word (is_some (get (codes "path") d)) (is_some (get (codes "parts") d)))
    (option_and_then as_str (get (codes "op") d))

pub tells_form : (said : Said) → form_in (object (said_members said)) ≡ Some (line_form said)
tells_form (Text text) = refl
tells_form (Path path) = refl
tells_form (Load source) = refl
tells_form (Step client document (action.Change p)) = refl
tells_form (Step client document (action.Changes ps)) = refl
tells_form (Step client document action.Look) = refl
tells_form (Step client document (action.Query qs)) = refl
tells_form (Step client document action.Tree) = refl
tells_form (Step client document (action.Await version)) = refl

-- ---- lists

pub items_once : (xs ys : List Data) → items_of xs ≡ items_of ys → xs ≡ ys
items_once [] [] h = refl
items_once [] (y ∷ ys) h = absurd (let e : no_items ≡ item y (items_of ys) = h in cc)
items_once (x ∷ xs) [] h = absurd (let e : item x (items_of xs) ≡ no_items = h in cc)
items_once (x ∷ xs) (y ∷ ys) h =
    let rest : items_of xs ≡ items_of ys = cc in
    let same : xs ≡ ys = items_once xs ys rest in
    let first : x ≡ y = cc in
    let e : x ∷ xs ≡ y ∷ ys = cc in e

map_once : {X : Type 0} (f : X → Data) → ((x y : X) → f x ≡ f y → x ≡ y) → (xs ys : List X) → map f xs ≡ map f ys → xs ≡ ys
map_once f once [] [] h = refl
map_once f once [] (y ∷ ys) h = absurd (let e : [] ≡ f y ∷ map f ys = h in cc)
map_once f once (x ∷ xs) [] h = absurd (let e : f x ∷ map f xs ≡ [] = h in cc)
map_once {X = X} f once (x ∷ xs) (y ∷ ys) h =
    let rest : map f xs ≡ map f ys = cc in
    let same : xs ≡ ys = map_once f once xs ys rest in
    let first : x ≡ y = once x y (let e : f x ≡ f y = cc in e) in
    let e : x ∷ xs ≡ y ∷ ys = cc in e

whole_once : (m n : ℕ) → whole m ≡ whole n → m ≡ n
whole_once m n h = let e : number (unsigned m) ≡ number (unsigned n) = h in cc

abbrev made : ℕ → ℕ → Bytes → Piece
made start end new = record { start = start; end = end; new = new }

piece_once : (p q : Piece) → piece_data p ≡ piece_data q → p ≡ q
piece_once p q h =
    let start : p.start ≡ q.start = cc in
    let end : p.end ≡ q.end = cc in
    let new : p.new ≡ q.new = cc in
    let e : made p.start p.end p.new ≡ made q.start q.end q.new = cc in e

-- ---- what is said

action_once : (a b : Action) → action_form a ≡ action_form b → action_members a ≡ action_members b → a ≡ b
action_once (action.Change p) (action.Change q) f h =
    let start : p.start ≡ q.start = cc in
    let end : p.end ≡ q.end = cc in
    let new : p.new ≡ q.new = cc in
    let e : made p.start p.end p.new ≡ made q.start q.end q.new = cc in
    ap action.Change e
action_once (action.Changes ps) (action.Changes qs) f h =
    ap action.Changes (map_once piece_data piece_once ps qs (items_once _ _ (let e : items_of (map piece_data ps) ≡ items_of (map piece_data qs) = cc in e)))
action_once action.Look action.Look f h = refl
action_once (action.Query ps) (action.Query qs) f h =
    ap action.Query (map_once whole whole_once ps qs (items_once _ _ (let e : items_of (map whole ps) ≡ items_of (map whole qs) = cc in e)))
action_once action.Tree action.Tree f h = refl
action_once (action.Await v) (action.Await w) f h = let e : v ≡ w = cc in ap action.Await e
action_once a b f h = cc

said_once : (s t : Said) → line_form s ≡ line_form t → said_members s ≡ said_members t → s ≡ t
said_once (Text s) (Text t) f h = let e : s ≡ t = cc in ap Text e
said_once (Path s) (Path t) f h = let e : s ≡ t = cc in ap Path e
said_once (Load s) (Load t) f h = let e : s ≡ t = cc in ap Load e
said_once (Step c d a) (Step k e b) f h =
    let client : c ≡ k = cc in
    let document : d ≡ e = cc in
    let forms : action_form a ≡ action_form b = cc in
    let members : action_members a ≡ action_members b = cc in
    let acts : a ≡ b = action_once a b forms members in
    let same : Step c d a ≡ Step k e b = cc in same
said_once s t f h = cc

pub one_object : (s t : Said) → object (said_members s) ≡ object (said_members t) → s ≡ t
one_object s t h =
    let form : Some (line_form s) ≡ Some (line_form t) = sym (tells_form s) ∙ ap form_in h ∙ tells_form t in
    said_once s t (let e : line_form s ≡ line_form t = cc in e) (let e : said_members s ≡ said_members t = cc in e)

pub one_said : (line : Bytes) (s t : Said) → Says line s → Says line t → s ≡ t
one_said line s t p q =
    let e : Some (object (said_members s)) ≡ Some (object (said_members t)) = sym p.written ∙ q.written in
    one_object s t (let f : object (said_members s) ≡ object (said_members t) = cc in f)

pub none_of_no_items : (list : List Data) → items_of list ≡ no_items → list ≡ []
none_of_no_items [] h = refl
none_of_no_items (d ∷ ds) h = absurd (let e : item d (items_of ds) ≡ no_items = h in cc)

-- the same of the value at a place
pub at_place : {X : Type 0} (P : X → Type 0) (data_of : X → Data) (vs : List Value) (k : ℕ) (v : Value) → k < length vs → v ≡ get_or vs k v
    → (xs : List X) → All P xs → map view vs ≡ map data_of xs → (x : X) × P x × (view v ≡ data_of x)
at_place P data_of [] k v lt is xs all h = absurd (let f : ⊥ = omega (arith, lt) in f)
at_place P data_of (w ∷ ws) k v lt is [] all h = absurd (let e : view w ∷ map view ws ≡ [] = h in cc)
at_place P data_of (w ∷ ws) zero v lt is (x ∷ xs) all h =
    let first : view w ≡ data_of x = cc in
    (x, All-head P x xs all, ap view is ∙ first)
at_place P data_of (w ∷ ws) (suc k) v lt is (x ∷ xs) all h =
    at_place P data_of ws k v (omega (arith, lt)) is xs (All-tail P x xs all) (let e : map view ws ≡ map data_of xs = cc in e)
