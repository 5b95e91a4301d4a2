-- Stacks, their heads and their bare trees.
use Rattle.std.proofs.Common.{◌≡◌, ◌∙◌, sym, ap, refl, subst, ℕ, ◌<◌, ◌⊎◌, Bool, true, false, List, [], ◌∷◌, ◌++◌, append_assoc, append-nil, length, length-append, map, drop, Option, unwrap_or, arith}
use Rattle.ts_base.proofs.PlaceLemmas.{in_prefix}
use Rattle.ts_base.specs.Bytes.{Bytes}
use Rattle.spec_grammar.specs.Symbols.{is_extra}
use Rattle.spec_lexing.specs.Lexing.{token}
use Rattle.spec_trees.specs.declared.tree.Tree.{Tree}
use Rattle.spec_trees.specs.Trees.{is_extra_node, bare}
use Rattle.spec_trees.specs.Made.{filling}
use Rattle.spec_runs.specs.Configurations.{Configuration, HasMove}
use Rattle.spec_packing.specs.Packing.{PackedStack, own_config}
use Rattle.spec_forced.specs.Forced.{IsDecided}
use Rattle.spec_forced.specs.Sound.{States, StandOnStack}
use Rattle.ts_table.specs.declared.view.ParseTable.{ParseTable}
use Rattle.ts_table.specs.Tables.{IsStateOf, at_first}
use Rattle.ts_gss.specs.declared.layer.Layer.{Layer}
use Rattle.ts_gss.specs.Stacks.{stack_at, trees_on, state_on}
use Rattle.ts_steps.specs.declared.head.StackHead.{StackHead}
use Rattle.ts_steps.specs.declared.found.FoundToken.{FoundToken}
use Rattle.ts_steps.specs.Good.{EachTree}
use Rattle.ts_steps.specs.MoveLaws.{Laws}
use Rattle.ts_steps.specs.LiveHeads.{config_of, packed_of, packed_layers, HaveStates, IsGoodStack, IsLiveHead, read_on, GainsStacks}
use Rattle.ts_steps.specs.Heads.{IsOwnWithin, IsMadeNode, IsOwnHead, StandOnHead}
use Rattle.ts_steps.specs.Looking.{IsTokenAhead}
use Rattle.ts_steps.proofs.LayerLemmas.{layers_trees}
use Rattle.ts_glr.specs.Search.{StackStays, StacksStay}

-- ---- stacks that stay

stack_stays : (old new : List (List Layer)) (top : ℕ) → GainsStacks old new → top < length old → stack_at new top ≡ stack_at old top
stack_stays old new top g low =
    ap (λ (ss : List (List Layer)). stack_at ss top) g.1
    ∙ ap (λ (o : Option (List Layer)). unwrap_or o []) (in_prefix old g.0 top low)

pub grows_none : (old : List (List Layer)) → GainsStacks old old
grows_none old = ([], sym (append-nil old))

pub grows_more : (old now new : List (List Layer)) → GainsStacks old now → GainsStacks now new → GainsStacks old new
grows_more old now new a b = (a.0 ++ b.0, b.1 ∙ ap (λ (l : List (List Layer)). l ++ b.0) a.1 ∙ append_assoc old a.0 b.0)

still_there : (old new : List (List Layer)) (top : ℕ) → GainsStacks old new → top < length old → top < length new
still_there old new top g low = omega (arith, low, ap (λ (l : List (List Layer)). length l) g.1, length-append old g.0)

pub live_stays : (t : ParseTable) (size : ℕ) (old new : List (List Layer)) (h : StackHead) → GainsStacks old new → IsLiveHead t size old h → IsLiveHead t size new h
live_stays t size old new h g l = record {
  there = still_there old new h.top g l.there;
  stack = subst (λ (s : List Layer). IsGoodStack t size s h.place) (sym (stack_stays old new h.top g l.there)) l.stack;
}

pub config_stays : (t : ParseTable) (size : ℕ) (old new : List (List Layer)) (h : StackHead) → GainsStacks old new → IsLiveHead t size old h → config_of new h ≡ config_of old h
config_stays t size old new h g l = ap {B = Configuration} (λ (s : List Layer). record { stack = map bare (trees_on s); place = h.place }) (stack_stays old new h.top g l.there)

pub packed_stays : (t : ParseTable) (size : ℕ) (old new : List (List Layer)) (h : StackHead) → GainsStacks old new → IsLiveHead t size old h → packed_of new h ≡ packed_of old h
packed_stays t size old new h g l = ap {B = PackedStack} (λ (s : List Layer). record { stack = packed_layers s; place = h.place }) (stack_stays old new h.top g l.there)

-- the layers' own trees are those of the configuration
pub own_is : (stacks : List (List Layer)) (h : StackHead) → own_config (packed_of stacks h) ≡ config_of stacks h
own_is stacks h = ap {B = Configuration} (λ (ts : List Tree). record { stack = ts; place = h.place }) (layers_trees (stack_at stacks h.top))

pub read_stays : (t : ParseTable) (size : ℕ) (old new : List (List Layer)) (h : StackHead) → GainsStacks old new → IsLiveHead t size old h → read_on new h ≡ read_on old h
read_stays t size old new h g l = ap (λ (s : List Layer). filling (trees_on s)) (stack_stays old new h.top g l.there)

pub trees_stay : (old new : List (List Layer)) (h : StackHead) → GainsStacks old new → h.top < length old → trees_on (stack_at new h.top) ≡ trees_on (stack_at old h.top)
trees_stay old new h g low = ap (λ (s : List Layer). trees_on s) (stack_stays old new h.top g low)

pub own_stays : (t : ParseTable) (size : ℕ) (old new : List (List Layer)) (h : StackHead) → GainsStacks old new → IsOwnHead t size old h → IsOwnHead t size new h
own_stays t size old new h g o = record {
  live = live_stays t size old new h g o.live;
  own = subst (λ (ts : List Tree). EachTree (IsOwnWithin t.grammar) ts) (sym (trees_stay old new h g o.live.there)) o.own;
  made = subst (λ (ts : List Tree). EachTree (IsMadeNode t.grammar) ts) (sym (trees_stay old new h g o.live.there)) o.made;
}

pub stand_stays : (t : ParseTable) (states : States) (text : Bytes) (old new : List (List Layer)) (h : StackHead) → GainsStacks old new → h.top < length old → StandOnHead t states text old h → StandOnHead t states text new h
stand_stays t states text old new h g low s = subst (λ (ts : List Tree). StandOnStack t.grammar states text ts) (sym (trees_stay old new h g low)) s

-- what is seen from a stack that stays is still seen
pub ahead_stays : (t : ParseTable) (size : ℕ) (text : Bytes) (old new : List (List Layer)) (h : StackHead) (f : FoundToken) → GainsStacks old new → IsLiveHead t size old h → IsTokenAhead t text old h f → IsTokenAhead t text new h f
ahead_stays t size text old new h f g l a =
    let same = sym (read_stays t size old new h g l) in
    record {
      decided = subst (λ (read : List ℕ). IsDecided t.grammar read (drop h.place text) (token f.token f.pad f.size) f.extent) same a.decided;
      known = subst (λ (read : List ℕ). HasMove t.grammar read f.token.0 ⊎ (is_extra t.grammar f.token.0 ≡ true)) same a.known;
      past = a.past;
      reach = a.reach;
      some = a.some;
    }

-- ---- the stacks of some heads

pub stay_grown : (old new : List (List Layer)) (heads : List StackHead) → GainsStacks old new → StacksStay old new heads
stay_grown old new [] g = tt
stay_grown old new (h ∷ hs) g = ((λ low. (still_there old new h.top g low, stack_stays old new h.top g low)), stay_grown old new hs g)

pub live_kept : (t : ParseTable) (size : ℕ) (old new : List (List Layer)) (h : StackHead) → StackStays old new h → IsLiveHead t size old h → IsLiveHead t size new h
live_kept t size old new h stays l = record {
  there = (stays l.there).0;
  stack = subst (λ (s : List Layer). IsGoodStack t size s h.place) (sym (stays l.there).1) l.stack;
}

pub config_kept : (t : ParseTable) (size : ℕ) (old new : List (List Layer)) (h : StackHead) → StackStays old new h → IsLiveHead t size old h → config_of new h ≡ config_of old h
config_kept t size old new h stays l = ap {B = Configuration} (λ (s : List Layer). record { stack = map bare (trees_on s); place = h.place }) (stays l.there).1

pub packed_kept : (t : ParseTable) (size : ℕ) (old new : List (List Layer)) (h : StackHead) → StackStays old new h → IsLiveHead t size old h → packed_of new h ≡ packed_of old h
packed_kept t size old new h stays l = ap {B = PackedStack} (λ (s : List Layer). record { stack = packed_layers s; place = h.place }) (stays l.there).1

-- the state on top is that of the symbols
pub state_there : (t : ParseTable) (layers : List Layer) → HaveStates t layers → IsStateOf t (filling (trees_on layers)) (state_on layers)
state_there t [] s = at_first
state_there t (l ∷ layers) s = s.0

-- ---- bare trees

pub filling_bare : (laws : Laws) (ts : List Tree) → filling (map bare ts) ≡ filling ts
filling_bare laws [] = refl
filling_bare laws (t ∷ ts) = by (is_extra_node t) refl (filling_bare laws ts)
  where
    by : (b : Bool) → is_extra_node t ≡ b → filling (map bare ts) ≡ filling ts → filling (map bare (t ∷ ts)) ≡ filling (t ∷ ts)
    by true e h = let f : is_extra_node (bare t) ≡ true = (laws.keeps t).extra ∙ e in rw (e, f) h
    by false e h = let f : is_extra_node (bare t) ≡ false = (laws.keeps t).extra ∙ e in rw (e, f, (laws.keeps t).symbol, h) refl

-- the symbols of a head are those of its configuration
pub read_config : (laws : Laws) (stacks : List (List Layer)) (h : StackHead) → filling (config_of stacks h).stack ≡ read_on stacks h
read_config laws stacks h = filling_bare laws (trees_on (stack_at stacks h.top))
