-- A reduction that is asked for is due in the graph, and its children can be reduced.
use Rattle.std.proofs.Common.{◌≡◌, ◌∙◌, sym, ap, refl, subst, ℕ, ◌<◌, List, [], ◌∷◌, ◌++◌, append_assoc, length, reverse, slice_get, Some, arith}
use Rattle.std.specs.List.{Contains}
use Rattle.std.proofs.lemmas.List.{reverse-append, reverse-reverse, length-map}
use Rattle.ts_base.specs.Bytes.{Bytes}
use Rattle.ts_core.specs.declared.action.Action.TheVariants.{Reduce}
use Rattle.ts_core.specs.declared.flat.Production.{Production}
use Rattle.ts_core.specs.declared.flat.Step.{Step}
use Rattle.spec_tables.specs.Actions.{Act, reduce}
use Rattle.spec_trees.specs.declared.tree.Tree.{Tree}
use Rattle.spec_trees.specs.Trees.{bare}
use Rattle.spec_trees.specs.Made.{filling, step_symbols, BeginsFilled, EndsFilled}
use Rattle.spec_runs.specs.Configurations.{AreExtras}
use Rattle.spec_runs.specs.Moves.{StandsBefore}
use Rattle.spec_graph.specs.declared.graph.Head.{Head}
use Rattle.spec_graph.specs.declared.graph.Link.{Link}
use Rattle.spec_graph.specs.States.{LeadsTo, at_first, by_goto}
use Rattle.spec_graph.specs.Laying.{Parsing}
use Rattle.spec_graph.specs.Links.{IsAt, IsWay, way_trees, IsDue}
use Rattle.ts_graph.specs.declared.view.GraphView.{GraphView}
use Rattle.ts_graph.specs.Down.{place_at}
use Rattle.ts_table.specs.declared.view.ParseTable.{ParseTable}
use Rattle.ts_table.specs.Tables.{goto_of, actions_of, IsStateOf, ActsBy, reduces, IsTable}
use Rattle.ts_table.specs.Tables as tables
use Rattle.ts_table.specs.Ranks.{unit_rank}
use Rattle.ts_reductions.specs.SoundLinks.{CanBeParsed, bare_links}
use Rattle.ts_reductions.specs.declared.batch.Batch.{Batch}
use Rattle.ts_reductions.specs.declared.setting.Setting.{Setting}
use Rattle.ts_reductions.specs.declared.top.Top.{Top}
use Rattle.ts_reductions.specs.Laws.{ReductionLaws}
use Rattle.ts_reductions.specs.Sound.{parsing_from}
use Rattle.ts_reductions.specs.Asking.{inner_of, outer_of, key_of, IsAsked, IsReadyAt}
use Rattle.ts_reductions.proofs.SmallLemmas.{place_is_at, filling_extras, filling_turned}
use Rattle.ts_reductions.proofs.WayLemmas.{Parts, parts, map_turned, trees_append, trees_bare, way_bare, way_cut, bare_extras, bare_begins, bare_filling}

-- ---- states

pub leads_state : (t : ParseTable) (read : List ℕ) (n : ℕ) → LeadsTo (goto_of t) read n → IsStateOf t read n
leads_state t _ _ at_first = tables.at_first
leads_state t _ _ (by_goto read state symbol next s e) = tables.by_goto read state symbol next (leads_state t read state s) e

acts_by_reduce : (t : ParseTable) (read : List ℕ) (seen number : ℕ) → ActsBy t read seen (Reduce number) → Act t.grammar read seen (reduce number)
acts_by_reduce t read seen number (reduces _ a) = a

pub reduces_stay : (t : ParseTable) → IsTable t → (read : List ℕ) (state seen number : ℕ) → LeadsTo (goto_of t) read state → Contains (actions_of t state seen) (Reduce number) → Act t.grammar read seen (reduce number)
reduces_stay t table read state seen number leads there = acts_by_reduce t read seen number ((table.actions read state seen (Reduce number) (leads_state t read state leads)).0 there)

pub stays_reduce : (t : ParseTable) → IsTable t → (read : List ℕ) (state seen number : ℕ) → LeadsTo (goto_of t) read state → Act t.grammar read seen (reduce number) → Contains (actions_of t state seen) (Reduce number)
stays_reduce t table read state seen number leads acts = (table.actions read state seen (Reduce number) (leads_state t read state leads)).1 (reduces number acts)

-- ---- lists

some_steps : (p : Production) → (p.steps ≡ [] → ⊥) → 0 < length p.steps
some_steps p none = by p.steps none
  where
    by : (steps : List Step) → (steps ≡ [] → ⊥) → 0 < length steps
    by [] n = absurd (n refl)
    by (s ∷ steps) n = omega arith

filled_some : (ts : List Tree) → 0 < length (filling ts) → 0 < length ts
filled_some [] h = h
filled_some (t ∷ ts) h = omega arith

-- the last of some trees
ends_turned : (ts : List Tree) → EndsFilled ts → BeginsFilled (reverse ts)
ends_turned ts ends = by (reverse ts) refl
  where
    by : (us : List Tree) → reverse ts ≡ us → BeginsFilled us
    by [] e = tt
    by (u ∷ us) e = ends (reverse us) u (sym (reverse-reverse ts) ∙ ap (λ (l : List Tree). reverse l) e ∙ reverse-append (u ∷ []) us)

ends_part : (xs ys : List Tree) → EndsFilled (xs ++ ys) → EndsFilled ys
ends_part xs ys ends before last e = ends (xs ++ before) last (ap (λ (l : List Tree). xs ++ l) e ∙ sym (append_assoc xs before (last ∷ [])))

module _ (laws : ReductionLaws) (t : ParseTable) (table : IsTable t) (text : Bytes) (s : Setting) (g : GraphView) (k : Batch) (top : Top) (number : ℕ) (way : List Link) (b : ℕ) (ready : IsReadyAt t text s g k top) (asked : IsAsked t g k top number way b) where
  abbrev P : Parsing
  P = parsing_from t text ready.base

  parsed : CanBeParsed P
  parsed = ready.sound.laid.parsed

  abbrev links : List Link
  links = bare_links g.links

  abbrev pub outer : List Link
  outer = outer_of way

  abbrev pub inner : List Link
  inner = inner_of way

  pub two : Parts way outer inner
  two = parts way

  pub cut : (e : ℕ) × IsWay g.links top.head outer e × IsWay g.links e inner b
  cut = way_cut g.links outer inner top.head b (subst (λ (w : List Link). IsWay g.links top.head w b) two.whole asked.takes.way)

  abbrev pub e : ℕ
  e = cut.0

  lifted : IsWay links top.head (bare_links outer) e
  lifted = way_bare g.links outer top.head e cut.1

  taken_off : IsWay links e (bare_links inner) b
  taken_off = way_bare g.links inner e b cut.2

  outer_extras : AreExtras (way_trees (bare_links outer))
  outer_extras = subst AreExtras (sym (trees_bare outer)) (bare_extras laws.keeps (way_trees outer) two.extras)

  top_same : ready.seen.at.head ≡ asked.head
  top_same = let f : Some ready.seen.at.head ≡ Some asked.head = sym ready.seen.at.is ∙ asked.at in cc

  acts : Act t.grammar ready.seen.read top.token.0 (reduce number)
  acts = reduces_stay t table ready.seen.read asked.head.state top.token.0 number (subst (λ (h : Head). LeadsTo (goto_of t) ready.seen.read h.state) top_same ready.seen.at.state) asked.acts

  -- ---- what the children are

  pub filled_inner : length (filling (way_trees inner)) ≡ length asked.production.steps
  filled_inner =
      ap (λ (l : List ℕ). length l) (sym (filling_extras (way_trees outer) (way_trees inner) two.extras) ∙ ap filling (sym (trees_append outer inner) ∙ ap way_trees (sym two.whole)))
      ∙ asked.takes.filled

  bare_same : filling (way_trees (bare_links inner)) ≡ filling (way_trees inner)
  bare_same = ap filling (trees_bare inner) ∙ bare_filling laws.keeps (way_trees inner)

  pub some_taken : 0 < length (way_trees inner)
  some_taken =
      let n = some_steps asked.production (ready.takes_some asked.head number asked.left asked.production asked.at asked.acts asked.is) in
      filled_some (way_trees inner) (omega (arith, n, filled_inner))

  pub children_begin : BeginsFilled (reverse (way_trees inner))
  children_begin = ends_turned (way_trees inner) (ends_part (way_trees outer) (way_trees inner) (subst EndsFilled (ap way_trees two.whole ∙ trees_append outer inner) asked.takes.ends))

  bare_some : 0 < length (way_trees (bare_links inner))
  bare_some =
      let a = ap (λ (ts : List Tree). length ts) (trees_bare inner) in
      let c = length-map (way_trees inner) bare in
      omega (arith, a, c, some_taken)

  low_begins : BeginsFilled (way_trees (bare_links inner))
  low_begins = subst BeginsFilled (sym (trees_bare inner)) (bare_begins laws.keeps (way_trees inner) two.begins)

  low_ends : BeginsFilled (reverse (way_trees (bare_links inner)))
  low_ends = subst BeginsFilled (map_turned bare (way_trees inner) ∙ ap (λ (ts : List Tree). reverse ts) (sym (trees_bare inner))) (bare_begins laws.keeps (reverse (way_trees inner)) children_begin)

  stands : (low : Head) → slice_get g.heads b ≡ Some low → low.place ≡ k.begins
  stands low is = sym (place_is_at g.heads b low is) ∙ asked.begins

  -- ---- the law of graphs

  pub found : (over now : List ℕ) × (end : ℕ) × IsDue P (unit_rank t.grammar) g.heads links (key_of k) number asked.left asked.production top.head e b (bare_links outer) (bare_links inner) over now end
      × (filling (way_trees (bare_links inner)) ≡ reverse (step_symbols asked.production)) × StandsBefore t.grammar now asked.left
  found = laws.due P parsed.fit parsed.states parsed.grounded (unit_rank t.grammar) g.heads links ready.sound.laid.graph (key_of k) number asked.left asked.production top.head e b (bare_links outer) (bare_links inner) ready.seen.read top.token ready.seen.pad ready.seen.size
      ready.seen.at ready.seen.sees acts asked.is (sym asked.ranked) lifted outer_extras taken_off bare_some low_begins low_ends (ap (λ (l : List ℕ). length l) bare_same ∙ filled_inner) stands

  abbrev pub over : List ℕ
  over = found.0

  abbrev pub now : List ℕ
  now = found.1

  abbrev pub end : ℕ
  end = place_at g.heads e

  end_is : found.2 ≡ end
  end_is = sym (place_is_at g.heads e found.3.middle.head found.3.middle.is ∙ found.3.middle.place_is)

  pub due : IsDue P (unit_rank t.grammar) g.heads links (key_of k) number asked.left asked.production top.head e b (bare_links outer) (bare_links inner) over now end
  due = subst (λ (n : ℕ). IsDue P (unit_rank t.grammar) g.heads links (key_of k) number asked.left asked.production top.head e b (bare_links outer) (bare_links inner) over now n) end_is found.3

  pub bottom : IsAt P g.heads b now k.begins
  bottom = due.bottom

  pub before : StandsBefore t.grammar now asked.left
  before = found.5

  inner_filling : filling (way_trees inner) ≡ reverse (step_symbols asked.production)
  inner_filling = sym bare_same ∙ found.4

  pub children_fill : filling (reverse (way_trees inner)) ≡ step_symbols asked.production
  children_fill = filling_turned (way_trees inner) ∙ ap (λ (l : List ℕ). reverse l) inner_filling ∙ reverse-reverse (step_symbols asked.production)
