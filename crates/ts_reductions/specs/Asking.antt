-- The reductions of one key that a graph asks for, and what is made for each of them.
use Rattle.std.specs.Prelude.{◌≡◌, ℕ, ◌+◌, ◌<◌, ◌≤◌, suc, Bool, true, false, List, [], ◌∷◌, ◌++◌, length, reverse, slice_get, Some, None, if◌then◌else◌}
use Rattle.std.specs.List.{Contains}
use Rattle.ts_base.specs.Bytes.{Bytes}
use Rattle.ts_core.specs.declared.action.Action.{Action}
use Rattle.ts_core.specs.declared.action.Action.TheVariants.{Reduce}
use Rattle.ts_core.specs.declared.flat.Production.{Production}
use Rattle.ts_core.specs.declared.symbol.Symbol.{Symbol}
use Rattle.spec_grammar.specs.Symbols.{production_at}
use Rattle.spec_lexing.specs.Lexing.{token}
use Rattle.spec_trees.specs.declared.tree.Tree.{Tree}
use Rattle.spec_trees.specs.Trees.{is_extra_node, node_extent, span_of, all_spans, tree_depth}
use Rattle.spec_trees.specs.Made.{EndBy, form_of, reduced, most_depth}
use Rattle.spec_trees.specs.Reducible.{HasSmallValue}
use Rattle.spec_graph.specs.declared.graph.Head.{Head}
use Rattle.spec_graph.specs.declared.graph.Link.{Link}
use Rattle.spec_graph.specs.Laying.{SeesAt}
use Rattle.spec_graph.specs.Replacing.{depth_over}
use Rattle.spec_graph.specs.Keys.{Key}
use Rattle.spec_graph.specs.Links.{IsAt, way_trees, depths_of}
use Rattle.ts_graph.specs.declared.view.GraphView.{GraphView}
use Rattle.ts_graph.specs.Down.{place_at}
use Rattle.ts_graph.specs.declared.ways.Way.{Way}
use Rattle.ts_graph.specs.Ways.{TakesFilled, IsOnlyWay, ListsWaysTo}
use Rattle.ts_table.specs.declared.view.ParseTable.{ParseTable}
use Rattle.ts_table.specs.Tables.{goto_of, actions_of}
use Rattle.ts_table.specs.Ranks.{unit_rank}
use Rattle.ts_reductions.specs.Good.{IsGoodTree}
use Rattle.ts_reductions.specs.declared.batch.Batch.{Batch}
use Rattle.ts_reductions.specs.declared.setting.Setting.{Setting}
use Rattle.ts_reductions.specs.declared.top.Top.{Top}
use Rattle.ts_reductions.specs.declared.made.Made.{Made}
use Rattle.ts_reductions.specs.Sound.{Base, parsing_of, IsSoundBy}
use Rattle.ts_reductions.specs.Lines.{IsSetting}

-- ---- what is seen at heads

-- the head stands at the place, and sees the token there, for which the text was looked at so far
pub record IsTop (t : ParseTable) (text : Bytes) (g : GraphView) (look : ℕ) (top : Top)
    : Type 0 where
  pub read : List ℕ
  pub pad : ℕ
  pub size : ℕ
  pub at : IsAt (parsing_of t text) g.heads top.head read look
  pub sees : SeesAt (parsing_of t text) read look (token top.token pad size)
  pub some : 0 < top.ahead
  pub reach : look + top.ahead ≤ suc (length text)

-- the tops are those heads at the place that see some token
pub record AreTops (t : ParseTable) (text : Bytes) (g : GraphView) (look : ℕ)
    (tops : List Top) : Type 0 where
  pub each : (top : Top) → Contains tops top → IsTop t text g look top
  pub all : (h : ℕ) (read : List ℕ) (symbol : Symbol) (pad size : ℕ)
      → IsAt (parsing_of t text) g.heads h read look
      → SeesAt (parsing_of t text) read look (token symbol pad size)
      → (top : Top) × Contains tops top × (top.head ≡ h) × (top.token ≡ symbol)

-- ---- ways

-- the links from the topmost one that is no extra on
abbrev pub inner_of : List Link → List Link
inner_of [] = []
inner_of (l ∷ way) = if is_extra_node l.tree then inner_of way else l ∷ way

-- the extras before it
abbrev pub outer_of : List Link → List Link
outer_of [] = []
outer_of (l ∷ way) = if is_extra_node l.tree then l ∷ outer_of way else []

-- the children that a reduction takes on a way, the first of them the lowest
abbrev pub children_on : List Link → List Tree
children_on way = reverse (way_trees (inner_of way))

-- the extras above them, the first of them the lowest
abbrev pub extras_on : List Link → List Tree
extras_on way = reverse (way_trees (outer_of way))

-- the depth of the node over these children
abbrev pub depth_on : ParseTable → ℕ → ℕ → List Link → ℕ
depth_on t number left way =
    depth_over (form_of t.grammar left number) (reverse (depths_of (inner_of way)))

-- ---- reductions

-- the key of a batch of reductions
abbrev pub key_of : Batch → Key
key_of k = record { look = k.look; begins = k.begins; rank = k.rank }

-- an action stays on the token that a head sees
pub record HasAction (t : ParseTable) (g : GraphView) (top : Top) (action : Action) : Type 0 where
  pub head : Head
  pub at : slice_get g.heads top.head ≡ Some head
  pub acts : Contains (actions_of t head.state top.token.0) action

-- a reduction by the production of a number stays there
abbrev pub HasReduction : ParseTable → GraphView → Top → ℕ → Type 0
HasReduction t g top number = HasAction t g top (Reduce number)

-- A reduction stays on the token that a head sees, its production is one of the key's rank, and the
-- way takes as many trees as the production has steps, down to a head where the key begins.
pub record IsAsked (t : ParseTable) (g : GraphView) (k : Batch) (top : Top) (number : ℕ)
    (way : List Link) (b : ℕ) : Type 0 where
  pub head : Head
  pub at : slice_get g.heads top.head ≡ Some head
  pub acts : Contains (actions_of t head.state top.token.0) (Reduce number)
  pub left : ℕ
  pub production : Production
  pub is : production_at t.grammar number ≡ Some (left, production)
  pub ranked : unit_rank t.grammar left ≡ k.rank
  pub takes : TakesFilled g.links top.head (length production.steps) way b
  pub begins : place_at g.heads b ≡ k.begins

-- No reduction over nothing stays on the token that the head sees.
abbrev pub TakesSome : ParseTable → GraphView → Top → Type 0
TakesSome t g top =
    (head : Head) (number left : ℕ) (p : Production) → slice_get g.heads top.head ≡ Some head
    → Contains (actions_of t head.state top.token.0) (Reduce number)
    → production_at t.grammar number ≡ Some (left, p) → p.steps ≡ [] → ⊥

-- a graph that is sound over some stack, which ends at the key's place or before it, the setting of
-- its table, and a head that sees a token at that place
pub record IsReadyAt (t : ParseTable) (text : Bytes) (s : Setting) (g : GraphView) (k : Batch)
    (top : Top) : Type 0 where
  pub base : Base
  pub sound : IsSoundBy t text base g
  pub late : base.place ≤ k.look
  pub setting : IsSetting t (length text) s
  pub seen : IsTop t text g k.look top
  pub takes_some : TakesSome t g top

-- the same over this stack, of all heads that see a token at the key's place
pub record IsReady (t : ParseTable) (text : Bytes) (base : Base) (s : Setting) (g : GraphView)
    (k : Batch) (tops : List Top) : Type 0 where
  pub sound : IsSoundBy t text base g
  pub late : base.place ≤ k.look
  pub setting : IsSetting t (length text) s
  pub seen : AreTops t text g k.look tops
  pub takes_some : (top : Top) → Contains tops top → TakesSome t g top

-- What was made for a reduction that is asked for: its node, which is not too deep and examined more
-- than its children, with the state behind it, and the extras above.
pub record IsMadeFor (t : ParseTable) (size : ℕ) (g : GraphView) (k : Batch) (top : Top)
    (number : ℕ) (way : List Link) (b : ℕ) (m : Made) : Type 0 where
  pub asked : IsAsked t g k top number way b
  pub below_is : m.below ≡ b
  pub under : Head
  pub under_is : slice_get g.heads b ≡ Some under
  pub leads : goto_of t under.state asked.left ≡ Some m.piece.state
  pub small : HasSmallValue t.grammar number
  pub extent : ℕ
  pub covers : EndBy extent 0 (children_on way)
  pub past : all_spans (children_on way) < extent
  pub node_is : m.piece.node ≡ reduced t.grammar number extent None (children_on way)
  pub good : IsGoodTree t.grammar m.piece.node
  pub spans : span_of m.piece.node ≡ all_spans (children_on way)
  pub no_deeper : tree_depth m.piece.node ≤ m.piece.depth
  pub reach : k.begins + node_extent m.piece.node ≤ suc size
  pub depth_is : m.piece.depth ≡ depth_on t number asked.left way
  pub shallow : m.piece.depth ≤ most_depth
  pub extras_are : m.extras ≡ extras_on way
  pub top_is : m.top ≡ top

-- a reduction that is asked for would make a node that is too deep
pub record IsAskedDeep (t : ParseTable) (g : GraphView) (k : Batch) (top : Top) (number : ℕ)
    (way : List Link) (b : ℕ) : Type 0 where
  pub asked : IsAsked t g k top number way b
  pub deep : most_depth < depth_on t number asked.left way

-- All that was made for the reductions that are meant, and for no others: by which head, by the
-- production of which number, on which way, down to which head.
pub record AreMade (t : ParseTable) (size : ℕ) (g : GraphView) (k : Batch)
    (meant : Top → ℕ → List Link → ℕ → Type 0) (mades : List Made) : Type 0 where
  pub each : (m : Made) → Contains mades m
      → (top : Top) × (number : ℕ) × (way : List Link) × (b : ℕ) × meant top number way b
      × IsMadeFor t size g k top number way b m
  pub all : (top : Top) (number : ℕ) (way : List Link) (b : ℕ) → meant top number way b
      → IsAsked t g k top number way b
      → (m : Made) × Contains mades m × IsMadeFor t size g k top number way b m

-- one of the reductions that are meant would make a node that is too deep
pub record SomeAreDeep (t : ParseTable) (g : GraphView) (k : Batch)
    (meant : Top → ℕ → List Link → ℕ → Type 0) : Type 0 where
  pub top : Top
  pub number : ℕ
  pub way : List Link
  pub b : ℕ
  pub means : meant top number way b
  pub deep : IsAskedDeep t g k top number way b

-- More was put at the end, for the reductions that are meant, or one of these would be too deep.
abbrev pub Adds : ParseTable → ℕ → GraphView → Batch → (Top → ℕ → List Link → ℕ → Type 0)
    → List Made → List Made → Bool → Type 0
Adds t size g k meant old new false = SomeAreDeep t g k meant
Adds t size g k meant old new true =
    (more : List Made) × (new ≡ old ++ more) × AreMade t size g k meant more

-- those on one way
abbrev pub OnWay : Top → ℕ → List Link → ℕ → Top → ℕ → List Link → ℕ → Type 0
OnWay top number way b = λ u n w c. (u ≡ top) × (n ≡ number) × (w ≡ way) × (c ≡ b)

-- those by one production
abbrev pub ByNumber : Top → ℕ → Top → ℕ → List Link → ℕ → Type 0
ByNumber top number = λ u n w c. (u ≡ top) × (n ≡ number)

-- those of one action, where it is a reduction
abbrev pub ByAction : Top → Action → Top → ℕ → List Link → ℕ → Type 0
ByAction top action = λ u n w c. (u ≡ top) × (action ≡ Reduce n)

-- those of one head
abbrev pub ByTop : Top → Top → ℕ → List Link → ℕ → Type 0
ByTop top = λ u n w c. (u ≡ top)

-- those of all of these heads
abbrev pub ByTops : List Top → Top → ℕ → List Link → ℕ → Type 0
ByTops tops = λ u n w c. Contains tops u

-- ---- one reduction. It serves private clauses and proofs alone.

-- It stays on the token that the head sees, and its production, which has so many steps, is one of
-- the key's rank.
pub record IsOfKey (t : ParseTable) (g : GraphView) (k : Batch) (top : Top) (number count : ℕ)
    : Type 0 where
  pub has : HasReduction t g top number
  pub left : ℕ
  pub production : Production
  pub is : production_at t.grammar number ≡ Some (left, production)
  pub steps : count ≡ length production.steps
  pub ranked : unit_rank t.grammar left ≡ k.rank

-- and these are all its ways down to where the key begins
pub record HasWays (t : ParseTable) (g : GraphView) (k : Batch) (top : Top) (number : ℕ)
    (ways : List Way) : Type 0 where
  pub count : ℕ
  pub reduction : IsOfKey t g k top number count
  pub lists : ListsWaysTo g.heads g.links top.head count k.begins ways

-- and this is its only way down
pub record HasOneWay (t : ParseTable) (g : GraphView) (k : Batch) (top : Top) (number : ℕ)
    (links : List ℕ) (b : ℕ) : Type 0 where
  pub count : ℕ
  pub reduction : IsOfKey t g k top number count
  pub only : IsOnlyWay g.links top.head count links b
  pub there : b < length g.heads
