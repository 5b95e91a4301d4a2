-- What is written by parts comes to the tokens of the whole, and nodes are lent by their parts.
use Rattle.std.proofs.Common.{◌≡◌, ◌∙◌, sym, ap, subst, ℕ, zero, suc, ◌+◌, ◌<◌, ◌≤◌, Bool, List, [], ◌∷◌, ◌++◌, length, map, drop, get_or, Option, Some, None, option_map, slice_get, Ok, append_assoc, codes, decimal, arith}
use Rattle.std.proofs.Math.Seq.{drop-cons}
use Rattle.std.proofs.lemmas.List.{drop_all}
use Rattle.std.proofs.lemmas.Option.{get_or_from_slice_get, slice_get_within}
use Rattle.json.specs.Print.{print}
use Rattle.json.specs.Token as json
use Rattle.json.specs.Token.{Token}
use Rattle.json.specs.Tree.{items_tokens}
use Rattle.json.specs.Written.{Written, Writes}
use Rattle.serde_json.specs.Data.{Data, array, object, string, Members, no_members, member}
use Rattle.serde_json.specs.View.{items_of}
use Rattle.serde_json.specs.Written.{items_outline}
use Rattle.serde_json.proofs.Texts.{print-outline}
use Rattle.ts_base.specs.Bytes.{Bytes}
use Rattle.ts_core.specs.declared.flat.FlatGrammar.{FlatGrammar}
use Rattle.spec_trees.specs.declared.tree.Tree.{Tree}
use Rattle.spec_trees.specs.declared.visible.VisibleNode.{VisibleNode}
use Rattle.spec_trees.specs.Family.{LieWithin}
use Rattle.spec_trees.specs.Shown.{Visible, field_name, shown}
use Rattle.spec_trees.specs.VisibleNodes.{visible_nodes}
use Rattle.spec_output.specs.Lines.{newline, object_line}
use Rattle.spec_output.specs.Outcomes.{node_data, node_items, outcome_members}
use Rattle.spec_output.specs.declared.outcome.ShownOutcome.TheVariants.{Tree as TreeOutcome}
use Rattle.ts_print.specs.Written.{AddsTokens, AddsValue, AddsBefore, tokens_of, tokens_of_members}

-- ---- parts

pub token_added : {E : Type 0} (t : Token) (old new : Written) → Writes {E = E} (Ok tt) old new t → AddsTokens (t ∷ []) old new
token_added t old new w = record { tokens = w.ok; before = w.room.0 }

pub joined : (ts us : List Token) (old mid new : Written) → AddsTokens ts old mid → AddsTokens us mid new → AddsTokens (ts ++ us) old new
joined ts us old mid new first second = record {
  tokens = second.tokens ∙ ap (λ (xs : List Token). xs ++ us) first.tokens ∙ append_assoc old.tokens ts us;
  before = second.before ∙ first.before;
}

pub number_is : (n m : ℕ) (old new : Written) → n ≡ m → AddsTokens (json.number (decimal n) ∷ []) old new → AddsTokens (json.number (decimal m) ∷ []) old new
number_is n m old new same added = subst (λ (k : ℕ). AddsTokens (json.number (decimal k) ∷ []) old new) same added

-- ---- lists from a place on

from_here : {X : Type 0} (xs : List X) (k : ℕ) (x : X) → k < length xs → x ≡ get_or xs k x → drop k xs ≡ x ∷ drop (k + 1) xs
from_here xs k x within is =
    let next : suc k ≡ k + 1 = omega arith in
    drop-cons xs k x within ∙ ap (λ y. y ∷ drop (suc k) xs) (sym is) ∙ ap (λ n. x ∷ drop n xs) next

-- the tokens of fields from here on, with the end
abbrev pub names_left : FlatGrammar → List ℕ → List Token
names_left g fields = items_tokens (items_outline (items_of (map string (map (field_name g) fields))))

pub name_step : (g : FlatGrammar) (fields : List ℕ) (k : ℕ) (name : Bytes) (old mid end : Written)
    → k < length fields → name ≡ field_name g (get_or fields k 0)
    → AddsTokens (json.string name ∷ []) old mid → AddsTokens (names_left g (drop (k + 1) fields)) mid end → AddsTokens (names_left g (drop k fields)) old end
name_step g fields k name old mid end within named added rest =
    let field : ℕ = get_or fields k 0 in
    let next : suc k ≡ k + 1 = omega arith in
    let here : drop k fields ≡ field ∷ drop (k + 1) fields = drop-cons fields k 0 within ∙ ap (λ (n : ℕ). field ∷ drop n fields) next in
    subst (λ (fs : List ℕ). AddsTokens (names_left g fs) old end) (sym here)
    (joined (json.string (field_name g field) ∷ []) (names_left g (drop (k + 1) fields)) old mid end
    (subst (λ (s : Bytes). AddsTokens (json.string s ∷ []) old mid) named added) rest)

pub names_end : (g : FlatGrammar) (fields : List ℕ) (k : ℕ) (old end : Written)
    → length fields ≤ k → AddsTokens (json.end_array ∷ []) old end → AddsTokens (names_left g (drop k fields)) old end
names_end g fields k old end past added =
    subst (λ (fs : List ℕ). AddsTokens (names_left g fs) old end) (sym (drop_all k fields past)) added

-- the tokens of nodes from here on, with the end
abbrev pub nodes_left : FlatGrammar → Bytes → List VisibleNode → List Token
nodes_left g text nodes = items_tokens (items_outline (node_items (map (shown g text) nodes)))

pub node_step : (g : FlatGrammar) (text points : Bytes) (nodes : List VisibleNode) (k : ℕ) (node : VisibleNode) (old mid end : Written)
    → points ≡ text → slice_get nodes k ≡ Some node
    → AddsValue (node_data (shown g points node)) old mid → AddsTokens (nodes_left g text (drop (k + 1) nodes)) mid end → AddsTokens (nodes_left g text (drop k nodes)) old end
node_step g text points nodes k node old mid end same at added rest =
    let here : drop k nodes ≡ node ∷ drop (k + 1) nodes = from_here nodes k node (slice_get_within nodes k node at) (sym (get_or_from_slice_get nodes k node node at)) in
    subst (λ (ns : List VisibleNode). AddsTokens (nodes_left g text ns) old end) (sym here)
    (joined (tokens_of (node_data (shown g text node))) (nodes_left g text (drop (k + 1) nodes)) old mid end
    (subst (λ (w : Bytes). AddsValue (node_data (shown g w node)) old mid) same added) rest)

pub nodes_end : (g : FlatGrammar) (text : Bytes) (nodes : List VisibleNode) (k : ℕ) (old end : Written)
    → length nodes ≤ k → AddsTokens (json.end_array ∷ []) old end → AddsTokens (nodes_left g text (drop k nodes)) old end
nodes_end g text nodes k old end past added =
    subst (λ (ns : List VisibleNode). AddsTokens (nodes_left g text ns) old end) (sym (drop_all k nodes past)) added

-- ---- nodes

some_is : {A : Type 0} (a b : A) → Some a ≡ Some b → a ≡ b
some_is a b e = cc

none_is : {A : Type 0} (a : A) → None ≡ Some a → ⊥
none_is a e = cc

-- a node by its parts
pub node_is : (o : Option VisibleNode) (depth : ℕ) (name : List ℕ) (named : Bool) (fields : List ℕ) (start end : ℕ)
    → option_map (λ (n : VisibleNode). n.depth) o ≡ Some depth → option_map (λ (n : VisibleNode). n.name) o ≡ Some name → option_map (λ (n : VisibleNode). n.named) o ≡ Some named
    → option_map (λ (n : VisibleNode). n.fields) o ≡ Some fields → option_map (λ (n : VisibleNode). n.start) o ≡ Some start → option_map (λ (n : VisibleNode). n.end) o ≡ Some end
    → o ≡ Some (record { depth = depth; name = name; named = named; fields = fields; start = start; end = end })
node_is None depth name named fields start end d n m f s e = absurd (none_is depth d)
node_is (Some node) depth name named fields start end d n m f s e =
    let dd = some_is node.depth depth d in
    let nn = some_is node.name name n in
    let mm = some_is node.named named m in
    let ff = some_is node.fields fields f in
    let ss = some_is node.start start s in
    let ee = some_is node.end end e in
    λ i. Some (record { depth = dd i; name = nn i; named = mm i; fields = ff i; start = ss i; end = ee i })

nothing : (k : ℕ) (node : VisibleNode) → slice_get {X = VisibleNode} [] k ≡ Some node → ⊥
nothing k node e = cc

pub start_within : (limit : ℕ) (nodes : List VisibleNode) (k : ℕ) (node : VisibleNode) → LieWithin limit nodes → slice_get nodes k ≡ Some node → node.start ≤ limit
start_within limit [] k node lie at = absurd (nothing k node at)
start_within limit (n ∷ ns) zero node lie at =
    subst (λ (v : VisibleNode). v.start ≤ limit) (some_is n node at) (omega (arith, lie.0, lie.1.0))
start_within limit (n ∷ ns) (suc k) node lie at = start_within limit ns k node lie.1.1 at

pub lie_wider : (few many : ℕ) (nodes : List VisibleNode) → few ≤ many → LieWithin few nodes → LieWithin many nodes
lie_wider few many [] le lie = tt
lie_wider few many (n ∷ ns) le lie = (lie.0, (omega (arith, le, lie.1.0), lie_wider few many ns le lie.1.1))

-- ---- members of an object, and its line

pub member_added : (name : Bytes) (value : Data) (old mid new : Written) → AddsTokens (json.key name ∷ []) old mid → AddsValue value mid new
    → (after : Members) → AddsBefore after (member name value after) old new
member_added name value old mid new named added after end rest =
    joined (json.key name ∷ []) (tokens_of value ++ tokens_of_members after) old mid end named
    (joined (tokens_of value) (tokens_of_members after) mid new end added rest)

pub tree_added : (g : FlatGrammar) (text : Bytes) (root : Tree) (nodes : List VisibleNode) (old named listed new : Written)
    → nodes ≡ visible_nodes g root → AddsTokens (json.key (codes "nodes") ∷ []) old named
    → AddsValue (array (node_items (map (shown g text) nodes))) named listed
    → ((after : Members) → AddsBefore after (member (codes "outcome") (string (codes "tree")) after) listed new)
    → (after : Members) → AddsBefore after (outcome_members (TreeOutcome (Visible g text root)) after) old new
tree_added g text root nodes old named listed new seen key list told after =
    subst (λ (ns : List VisibleNode). AddsBefore after (outcome_members (TreeOutcome (map (shown g text) ns)) after) old new) seen
    (λ end rest. member_added (codes "nodes") (array (node_items (map (shown g text) nodes))) old named listed key list
    (member (codes "outcome") (string (codes "tree")) after) end (told after end rest))

pub object_added : (members : Members) (old begin mid new : Written) → AddsTokens (json.begin_object ∷ []) old begin → AddsBefore no_members members begin mid
    → AddsTokens (json.end_object ∷ []) mid new → AddsValue (object members) old new
object_added members old begin mid new begun added ended =
    joined (json.begin_object ∷ []) (tokens_of_members members) old begin new begun (added new ended)

pub line_is : (members : Members) (before tokens : List Token) (line : Bytes) → before ≡ [] → tokens ≡ before ++ tokens_of (object members)
    → line ≡ print tokens ++ newline ∷ [] → line ≡ object_line members
line_is members before tokens line none all ends =
    let whole : tokens ≡ tokens_of (object members) = all ∙ ap (λ (ts : List Token). ts ++ tokens_of (object members)) none in
    ends ∙ ap (λ (ts : List Token). print ts ++ newline ∷ []) whole ∙ ap (λ (bs : Bytes). bs ++ newline ∷ []) (print-outline (object members))
