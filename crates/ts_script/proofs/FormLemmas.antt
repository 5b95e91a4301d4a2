-- What is found in one form of a line, as what is found of all that has the form.
use Rattle.std.proofs.Common.{◌≡◌, ◌∙◌, sym, ap, refl, subst, ℕ, List, [], ◌∷◌, ◌++◌, map, All, codes}
use Rattle.serde_json.specs.Data.{Data, Items, no_items, item, array, object, string, Members, no_members, member}
use Rattle.serde_json.specs.View.{view, items_of, items_view}
use Rattle.serde_json.specs.declared.value.Value.{Value}
use Rattle.ts_base.specs.Bytes.{Bytes}
use Rattle.ts_script.specs.declared.said.Action.{Action}
use Rattle.ts_script.specs.declared.said.Action.TheVariants as action
use Rattle.ts_script.specs.declared.said.ActionForm.TheVariants as step
use Rattle.ts_script.specs.declared.said.Form.{Form}
use Rattle.ts_script.specs.declared.said.Piece.{Piece}
use Rattle.ts_script.specs.Forms.{action_form, with_list, IsActed, AreAll}
use Rattle.ts_script.specs.Said.{IsNumber, HasPlaces, whole, piece_data, action_members}
use Rattle.ts_script.proofs.SaidLemmas.{items_once, none_of_no_items}

-- ---- lists

pub list_once : (word name : Bytes) (a b : Items) → with_list word name a ≡ with_list word name b → a ≡ b
list_once word name a b h = cc

-- the list of the members is empty
pub empty_list : (word name : Bytes) (ms : Members) (found : List Value) → ms ≡ with_list word name (items_view found) → found ≡ []
    → (list : List Data) → (list ≡ [] → ⊥) → ms ≡ with_list word name (items_of list) → ⊥
empty_list word name ms found is none list some h =
    some (none_of_no_items list (list_once word name (items_of list) (items_view found) (sym h ∙ is) ∙ ap items_view none))

not_empty : {X : Type 0} (f : X → Data) (xs : List X) → (xs ≡ [] → ⊥) → map f xs ≡ [] → ⊥
not_empty f [] some h = some refl
not_empty f (x ∷ xs) some h = let e : f x ∷ map f xs ≡ [] = h in cc

-- ---- steps

pub no_parts : (ms : Members) → ((list : List Data) → (list ≡ [] → ⊥) → ms ≡ with_list (codes "edit") (codes "parts") (items_of list) → ⊥)
    → (act : Action) → action_form act ≡ step.Changes → IsActed ms act → ⊥
no_parts ms never (action.Changes ps) f (fits, h) = never (map piece_data ps) (not_empty piece_data ps fits.0) h
no_parts ms never act f h = cc

pub no_numbers : (ms : Members) (vs : List Value) → ms ≡ with_list (codes "query") (codes "queries") (items_view vs)
    → ((xs : List ℕ) → AreAll IsNumber whole (map view vs) xs → ⊥)
    → (act : Action) → action_form act ≡ step.Query → IsActed ms act → ⊥
no_numbers ms vs is never (action.Query qs) f (fits, h) =
    never qs (fits.1, items_once (map view vs) (map whole qs) (list_once (codes "query") (codes "queries") _ _ (sym is ∙ h)))
no_numbers ms vs is never act f h = cc

pub no_pieces : (ms : Members) (vs : List Value) → ms ≡ with_list (codes "edit") (codes "parts") (items_view vs)
    → ((xs : List Piece) → AreAll HasPlaces piece_data (map view vs) xs → ⊥)
    → (act : Action) → action_form act ≡ step.Changes → IsActed ms act → ⊥
no_pieces ms vs is never (action.Changes ps) f (fits, h) =
    never ps (fits.1, items_once (map view vs) (map piece_data ps) (list_once (codes "edit") (codes "parts") _ _ (sym is ∙ h)))
no_pieces ms vs is never act f h = cc
