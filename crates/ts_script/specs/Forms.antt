-- Which form each line has, and what is found of a form; for private clauses and proofs alone.
use Rattle.std.specs.Prelude.{ℕ, ◌≡◌, Bool, List, map, All, Option, Some, None, option_map, MatchOption, if◌then◌else◌, codes}
use Rattle.std.specs.Str.{bytes_eq}
use Rattle.serde_json.specs.Data.{Data, array, object, Items, Members, no_members, member}
use Rattle.ts_base.specs.Bytes.{Bytes}
use Rattle.ts_script.specs.declared.said.Action.{Action}
use Rattle.ts_script.specs.declared.said.Action.TheVariants as action
use Rattle.ts_script.specs.declared.said.ActionForm.{ActionForm}
use Rattle.ts_script.specs.declared.said.ActionForm.TheVariants as step
use Rattle.ts_script.specs.declared.said.Form.{Form}
use Rattle.ts_script.specs.declared.said.Form.TheVariants as form
use Rattle.ts_script.specs.declared.said.Piece.{Piece}
use Rattle.ts_script.specs.declared.said.Said.{Said}
use Rattle.ts_script.specs.declared.said.Said.TheVariants.{Text, Path, Load, Step}
use Rattle.ts_script.specs.Said.{IsSaid, IsAction, said_members, action_members, with_op, whole}

-- the form of what a step does
abbrev pub action_form : Action → ActionForm
action_form (action.Change p) = step.Change
action_form (action.Changes ps) = step.Changes
action_form action.Look = step.Look
action_form (action.Query qs) = step.Query
action_form action.Tree = step.Tree
action_form (action.Await version) = step.Await

-- the form of what a line says
abbrev pub line_form : Said → Form
line_form (Text text) = form.Text
line_form (Path path) = form.Path
line_form (Load source) = form.Load
line_form (Step client document act) = form.Step (action_form act)

-- what P holds of was found, or P holds of nothing
abbrev pub FindsOne : {X : Type 0} → (X → Type 0) → Option X → Type 0
FindsOne P found = MatchOption found ((x : _) → P x → ⊥) P

-- the object with these members says it
abbrev pub IsWritten : Members → Said → Type 0
IsWritten ms said = IsSaid said × (ms ≡ said_members said)

-- the same, for what is said in the form
abbrev pub FindsForm : Form → Members → Option Said → Type 0
FindsForm form ms found =
    MatchOption found ((said : Said) → line_form said ≡ form → IsWritten ms said → ⊥) (IsWritten ms)

-- these members say what the step does
abbrev pub IsActed : Members → Action → Type 0
IsActed ms act = IsAction act × (ms ≡ action_members act)

-- what a step does in the form was found, or the members say no such thing
abbrev pub FindsAction : ActionForm → Members → Option Action → Type 0
FindsAction form ms found =
    MatchOption found ((act : Action) → action_form act ≡ form → IsActed ms act → ⊥) (IsActed ms)

-- the data are those of what P holds of, one for one
abbrev pub AreAll : {X : Type 0} → (X → Type 0) → (X → Data) → List Data → List X → Type 0
AreAll P data_of ds xs = All P xs × (ds ≡ map data_of xs)

-- ---- words

-- the form of a step with this word
abbrev pub action_named : Bytes → Bool → Option ActionForm
action_named word has_parts =
    if bytes_eq word (codes "edit") then Some (if has_parts then step.Changes else step.Change)
    else (if bytes_eq word (codes "look") then Some step.Look
    else (if bytes_eq word (codes "query") then Some step.Query
    else (if bytes_eq word (codes "tree") then Some step.Tree
    else (if bytes_eq word (codes "await") then Some step.Await else None))))

-- the form of a line with this word
abbrev pub form_named : Bytes → Bool → Bool → Option Form
form_named word has_path has_parts =
    if bytes_eq word (codes "open") then Some (if has_path then form.Path else form.Text)
    else (if bytes_eq word (codes "load") then Some form.Load
    else option_map form.Step (action_named word has_parts))

-- ---- members

-- the members of a step before those of what it does
abbrev pub with_place : ℕ → ℕ → Members → Members
with_place client document after =
    member (codes "client") (whole client) (member (codes "document") (whole document) after)

-- a word and a list
abbrev pub with_list : Bytes → Bytes → Items → Members
with_list word name items = with_op word (member name (array items) no_members)
