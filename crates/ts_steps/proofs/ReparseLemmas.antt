-- A parse over one stack: what holds after each move, and at its end.
use Rattle.std.proofs.Common.{◌≡◌, ◌∙◌, sym, ap, refl, subst, ℕ, ◌+◌, ◌<◌, ◌≤◌, List, ◌∷◌, length, drop, Option, Some, None, IfSome, MatchOption, arith}
use Rattle.ts_base.specs.Bytes.{Bytes}
use Rattle.ts_core.specs.declared.flat.FlatGrammar.{FlatGrammar}
use Rattle.ts_core.specs.declared.symbol.Symbol.{Symbol}
use Rattle.spec_grammar.specs.Symbols.{symbol_count}
use Rattle.spec_tables.specs.Fit.{Fit}
use Rattle.spec_trees.specs.declared.tree.Tree.{Tree}
use Rattle.spec_trees.specs.declared.tree.Stretch.{Stretch}
use Rattle.spec_trees.specs.Trees.{node_extent, span_of, bare}
use Rattle.spec_trees.specs.Made.{filling}
use Rattle.spec_runs.specs.Configurations.{Configuration, stack_symbols, pushed, AreValidTokens}
use Rattle.spec_runs.specs.Runs.{StepsOn, shift_token, pass_extra, reduce_trees}
use Rattle.spec_runs.specs.Outcomes.{FreshOutcome, tree_outcome, stuck_outcome}
use Rattle.spec_forced.specs.Forced.{Stands}
use Rattle.spec_forced.specs.OnlyRuns.{IsOnlyStep, OnlyRun, Meet, IsFork, EndAlike, FreshFrom}
use Rattle.spec_forced.specs.Sound.{States, IsHonest, IsHonestStretch}
use Rattle.ts_table.specs.declared.view.ParseTable.{ParseTable}
use Rattle.ts_table.specs.Tables.{IsTable, IsStateOf}
use Rattle.ts_table.specs.Ranks.{unit_rank, AreUnitRanks}
use Rattle.ts_lexer.specs.declared.lexed.Lexed.{Lexed}
use Rattle.ts_gss.specs.declared.layer.Layer.{Layer}
use Rattle.ts_gss.specs.Stacks.{stack_at, trees_on, state_on, IsOneStack}
use Rattle.ts_steps.specs.declared.head.StackHead.{StackHead}
use Rattle.ts_steps.specs.declared.found.FoundToken.{FoundToken}
use Rattle.ts_steps.specs.declared.lengthening.ListEnd.{ListEnd}
use Rattle.ts_steps.specs.MoveLaws.{Laws}
use Rattle.ts_steps.specs.LiveHeads.{config_of}
use Rattle.ts_steps.proofs.StackLemmas.{filling_bare, state_top, span_bare}
use Rattle.ts_steps.specs.declared.reparsed.Fork.{Fork}
use Rattle.ts_steps.specs.declared.reparsed.Reparsed.{Reparsed}
use Rattle.ts_steps.specs.declared.reparsed.Reparsed.TheVariants.{Accepted, Stuck, Deep, Forks}
use Rattle.ts_steps.specs.declared.reparsed.Going.{Going}
use Rattle.ts_steps.specs.declared.reparsed.Going.TheVariants.{On, Reduced, Ended}
use Rattle.ts_steps.specs.Laws.{SoundLaws}
use Rattle.ts_steps.specs.Looking.{IsTokenAhead, SeesAhead}
use Rattle.ts_steps.specs.Heads.{AreStatesOf, IsOwnHead, StandOnHead, IsTaken}
use Rattle.ts_steps.specs.Reparsing.{StandsFor, OnFork, IsResult, IsTakenFrom, EndsFrom, GoesTo}
use Rattle.ts_steps.specs.Lengthening.{IsLengthened}
use Rattle.ts_steps.specs.Weights.{config_weight}
use Rattle.ts_steps.proofs.TableLemmas.{state_after, valid_tokens}
use Rattle.ts_steps.proofs.WeightLemmas.{light_on, light_step, light_node}

-- ---- the moves

-- for proofs alone: that the only runs from a configuration and from two others meet
abbrev pub Joins : Type 0
Joins = (g : FlatGrammar) (text : Bytes) (c d e : Configuration) → Meet g text c d → Meet g text d e → Meet g text c e

module _ (joins : Joins) (alone : (g : FlatGrammar) (text : Bytes) (c d : Configuration) → IsOnlyStep g text c d → Meet g text c d) where
  pub stands_on : (t : ParseTable) (states : States) (text : Bytes) (c : Configuration) (old new : List (List Layer)) (h k : StackHead) → StandsFor t states text c old h → IsOnlyStep t.grammar text (config_of old h) (config_of new k)
      → (StandOnHead t states text old h → StandOnHead t states text new k) → StandsFor t states text c new k
  stands_on t states text c old new h k s step stand = record {
    meet = joins t.grammar text c (config_of old h) (config_of new k) s.meet (alone t.grammar text (config_of old h) (config_of new k) step);
    stand = stand s.stand;
  }

abbrev pub Pushes : Type 0
Pushes = (g : FlatGrammar) → Fit g → (text : Bytes) (c : Configuration) (t : Tree) (e : ℕ) (valid : List Symbol)
    → Stands g (stack_symbols c.stack) (drop c.place text) t e
    → AreValidTokens g (stack_symbols (bare t ∷ c.stack)) valid
    → Meet g text c (pushed c (bare t))

module _ (laws : Laws) (sound : SoundLaws) (push : Pushes) (joins : Joins) (t : ParseTable) (states : States) (text : Bytes) (c : Configuration) (old new : List (List Layer)) (h k : StackHead) (node : Tree) (table : IsTable t) (are : AreStatesOf t states) where
  pub stands_taken : IsOwnHead t (length text) old h → StandsFor t states text c old h → IsTakenFrom t (length text) old new h node k → IsHonest t.grammar states text h.place (state_on (stack_at old h.top)) node → StandsFor t states text c new k
  stands_taken own s w honest =
      let trees = trees_on (stack_at old h.top) in
      let read : stack_symbols (config_of old h).stack ≡ filling trees = filling_bare laws trees in
      let st : IsStateOf t (filling trees) (state_on (stack_at old h.top)) = state_top t (stack_at old h.top) own.live.stack.states in
      let stands : Stands t.grammar (filling trees) (drop h.place text) node (node_extent node) =
      sound.after t.grammar states text h.place (state_on (stack_at old h.top)) node (filling trees) (state_after t states (filling trees) (state_on (stack_at old h.top)) table are st) honest.stands in
      let v = sound.tokens t w.taken.state in
      let valid : AreValidTokens t.grammar (stack_symbols (bare node ∷ (config_of old h).stack)) v.0 =
      subst (λ (r : List ℕ). AreValidTokens t.grammar r v.0) (sym (filling_bare laws (node ∷ trees))) (valid_tokens laws t (filling (node ∷ trees)) w.taken.state v.0 table w.taken.can.leads v.1) in
      let meets : Meet t.grammar text (config_of old h) (pushed (config_of old h) (bare node)) =
      push t.grammar table.fit text (config_of old h) node (node_extent node) v.0 (subst (λ (r : List ℕ). Stands t.grammar r (drop h.place text) node (node_extent node)) (sym read) stands) valid in
      record {
        meet = joins t.grammar text c (config_of old h) (config_of new k) s.meet (subst (λ (x : Configuration). Meet t.grammar text (config_of old h) x) (sym w.taken.config) meets);
        stand = w.stand states text refl are honest s.stand;
      }

-- where elements are put behind a repetition
module _ (joins : Joins) (t : ParseTable) (states : States) (text : Bytes) (c : Configuration) (old new : List (List Layer)) (h k : StackHead) (e : ListEnd) (s : Stretch) where
  pub stands_lengthened : AreStatesOf t states → StandsFor t states text c old h → IsLengthened t (length text) old new h e s k → IsHonestStretch t.grammar states text e.place e.state e.symbol.0 s → StandsFor t states text c new k
  stands_lengthened are f w honest =
      let both = w.stand states text refl are honest f.stand in
      record {
        meet = joins t.grammar text c (config_of old h) (config_of new k) f.meet both.1;
        stand = both.0;
      }

-- ---- the end

module _ (fresh : (g : FlatGrammar) (text : Bytes) (c d : Configuration) → EndAlike g text c d → (o : FreshOutcome) → FreshFrom g text c o → FreshFrom g text d o) (ends : (g : FlatGrammar) (text : Bytes) (c d : Configuration) → Meet g text c d → EndAlike g text c d)
    (fork : (g : FlatGrammar) (text : Bytes) (c d : Configuration) → Meet g text c d → IsFork g text d → OnlyRun g text c d)
    (t : ParseTable) (states : States) (text : Bytes) (first old new : List (List Layer)) (start h : StackHead) (are : AreStatesOf t states) (s : StandsFor t states text (config_of first start) old h) where
  from_start : (o : FreshOutcome) → FreshFrom t.grammar text (config_of old h) o → FreshFrom t.grammar text (config_of first start) o
  from_start o f = fresh t.grammar text (config_of old h) (config_of first start) (ends t.grammar text (config_of old h) (config_of first start) (s.meet.0, s.meet.2, s.meet.1)) o f

  pub ends_result : (r : Reparsed) → EndsFrom t text old new h r → IsResult t states text first new start r
  ends_result (Accepted u) e = (from_start (tree_outcome u) e.0, e.4 states are s.stand)
  ends_result (Stuck place) e = from_start (stuck_outcome place) e.0
  ends_result Deep e = tt
  ends_result (Forks k) e =
      let same : config_of old h ≡ config_of new k.head = ap (config_of old) (sym e.0) ∙ ap (λ (x : List (List Layer)). config_of x k.head) (sym e.1) in (
        subst (λ (x : Configuration). OnlyRun t.grammar text (config_of first start) x) same (fork t.grammar text (config_of first start) (config_of old h) s.meet e.2),
        subst (λ (x : List (List Layer)). StandOnHead t states text x k.head) (sym e.1) (subst (λ (x : StackHead). StandOnHead t states text old x) (sym e.0) s.stand),
      )

-- what is so of the last stack is so of the one at which several moves stay
pub ends_fork : (t : ParseTable) (text : Bytes) (P : List (List Layer) → StackHead → FoundToken → Type 0) (old new : List (List Layer)) (h : StackHead) (r : Reparsed) → ((f : FoundToken) → IsFork t.grammar text (config_of old h) → IsTokenAhead t text old h f → P old h f) → EndsFrom t text old new h r → OnFork (λ (k : Fork). P new k.head k.found) r
ends_fork t text P old new h (Accepted u) p e = tt
ends_fork t text P old new h (Stuck place) p e = tt
ends_fork t text P old new h Deep p e = tt
ends_fork t text P old new h (Forks k) p e = subst (λ (x : List (List Layer)). P x k.head k.found) (sym e.1) (subst (λ (x : StackHead). P old x k.found) (sym e.0) (p k.found e.2 e.3))

-- ---- each move falls

module _ (laws : Laws) (t : ParseTable) (fit : Fit t.grammar) (ranks : AreUnitRanks t.grammar (unit_rank t.grammar) (symbol_count t.grammar)) (text : Bytes) (old new : List (List Layer)) (h k : StackHead) (own : IsOwnHead t (length text) old h) where
  pub step_falls : IsOnlyStep t.grammar text (config_of old h) (config_of new k) → config_weight t.grammar (length text) (config_of new k) < config_weight t.grammar (length text) (config_of old h)
  step_falls s = light_step laws t.grammar fit ranks text (config_of old h) (config_of new k) own.live.stack.within s.step

  pub lengthened_falls : (e : ListEnd) (s : Stretch) → IsLengthened t (length text) old new h e s k → config_weight t.grammar (length text) (config_of new k) < config_weight t.grammar (length text) (config_of old h)
  lengthened_falls e s w =
      let same : stack_symbols (config_of new k).stack ≡ stack_symbols (config_of old h).stack =
      filling_bare laws (trees_on (stack_at new k.top)) ∙ w.symbols ∙ sym (filling_bare laws (trees_on (stack_at old h.top))) in
      light_on laws t.grammar fit ranks (length text) (config_of old h) (config_of new k) same w.later w.own.live.stack.within

  pub taken_falls : (node : Tree) → IsTakenFrom t (length text) old new h node k → config_weight t.grammar (length text) (config_of new k) < config_weight t.grammar (length text) (config_of old h)
  taken_falls node w =
      let same = span_bare laws node in
      let some = w.some in
      let placed : k.place ≡ h.place + span_of (bare node) = ap (λ (x : Configuration). x.place) w.taken.config in
      let within = w.taken.live.live.stack.within in
      subst (λ (x : Configuration). config_weight t.grammar (length text) x < config_weight t.grammar (length text) (config_of old h)) (sym w.taken.config)
      (light_node laws t.grammar fit ranks (length text) (config_of old h) (bare node) (omega arith) (omega arith))

-- ---- what is taken

pub take_gives : (t : ParseTable) (size : ℕ) (old new : List (List Layer)) (h : StackHead) (node : Tree) (Gives : Tree → Type 0) (No : Type 0) (o : Option StackHead) → Gives node → 0 < span_of node
    → MatchOption o No (IsTaken t size old new h node)
    → IfSome o (λ k. (states : States) (text : Bytes) → length text ≡ size → AreStatesOf t states → IsHonest t.grammar states text h.place (state_on (stack_at old h.top)) node → StandOnHead t states text old h → StandOnHead t states text new k)
    → IfSome o (λ k. (x : Tree) × Gives x × IsTakenFrom t size old new h x k)
take_gives t size old new h node Gives No None given some taken stand = tt
take_gives t size old new h node Gives No (Some k) given some taken stand = (node, given, record { taken = taken; some = some; stand = stand })

pub taken_some : (t : ParseTable) (size long : ℕ) → size ≡ long → (old new : List (List Layer)) (h : StackHead) (Gives : Tree → Type 0) (o : Option StackHead) (k : StackHead) → o ≡ Some k
    → IfSome o (λ q. (x : Tree) × Gives x × IsTakenFrom t size old new h x q)
    → (x : Tree) × Gives x × IsTakenFrom t long old new h x k
taken_some t size long is old new h Gives o k some w =
    subst (λ (n : ℕ). (x : Tree) × Gives x × IsTakenFrom t n old new h x k) is
    (subst (λ (p : Option StackHead). IfSome p (λ q. (x : Tree) × Gives x × IsTakenFrom t size old new h x q)) some w)

pub lengthened_some : (t : ParseTable) (size long : ℕ) → size ≡ long → (old new : List (List Layer)) (h : StackHead) (Lends : ListEnd → Stretch → Type 0) (o : Option StackHead) (k : StackHead) → o ≡ Some k
    → IfSome o (λ q. (e : ListEnd) × (s : Stretch) × Lends e s × IsLengthened t size old new h e s q)
    → (e : ListEnd) × (s : Stretch) × Lends e s × IsLengthened t long old new h e s k
lengthened_some t size long is old new h Lends o k some w =
    subst (λ (n : ℕ). (e : ListEnd) × (s : Stretch) × Lends e s × IsLengthened t n old new h e s k) is
    (subst (λ (p : Option StackHead). IfSome p (λ q. (e : ListEnd) × (s : Stretch) × Lends e s × IsLengthened t size old new h e s q)) some w)

pub taken_place : (t : ParseTable) (size : ℕ) (old new : List (List Layer)) (h : StackHead) (node : Tree) (k : StackHead) → IsTakenFrom t size old new h node k → h.place ≤ k.place
taken_place t size old new h node k w =
    let placed : k.place ≡ h.place + span_of (bare node) = ap (λ (x : Configuration). x.place) w.taken.config in
    omega (arith, placed)

-- ---- what a move comes to

steps_place : (g : FlatGrammar) (text : Bytes) (c d : Configuration) → StepsOn g text c d → c.place ≤ d.place
steps_place g text c _ (shift_token symbol pad size next act) = omega arith
steps_place g text c _ (pass_extra symbol pad size next extra idle) = omega arith
steps_place g text c _ (reduce_trees number node after move r low) = omega arith

pub step_place : (t : ParseTable) (text : Bytes) (old new : List (List Layer)) (h k : StackHead) → IsOnlyStep t.grammar text (config_of old h) (config_of new k) → h.place ≤ k.place
step_place t text old new h k s = steps_place t.grammar text (config_of old h) (config_of new k) s.step

pub goes_on : (t : ParseTable) (text : Bytes) (old mid new : List (List Layer)) (h k : StackHead) (going : Going) → mid ≡ old → going ≡ On k → GoesTo t text mid new h going → GoesTo t text old new h (On k)
goes_on t text old mid new h k going kept is goes =
    subst (λ (s : List (List Layer)). GoesTo t text s new h (On k)) kept (subst (λ (x : Going). GoesTo t text mid new h x) is goes)

pub goes_reduced_on : (t : ParseTable) (text : Bytes) (old mid new : List (List Layer)) (h k : StackHead) (f : FoundToken) (going : Going) → mid ≡ old → going ≡ Reduced k f → GoesTo t text mid new h going → GoesTo t text old new h (Reduced k f)
goes_reduced_on t text old mid new h k f going kept is goes =
    subst (λ (s : List (List Layer)). GoesTo t text s new h (Reduced k f)) kept (subst (λ (x : Going). GoesTo t text mid new h x) is goes)

pub goes_kept : (t : ParseTable) (text : Bytes) (old mid new : List (List Layer)) (h k : StackHead) (f : FoundToken) → new ≡ mid → GoesTo t text old mid h (Reduced k f) → GoesTo t text old new h (Reduced k f)
goes_kept t text old mid new h k f kept goes = subst (λ (s : List (List Layer)). GoesTo t text old s h (Reduced k f)) (sym kept) goes

pub ends_at : (t : ParseTable) (text : Bytes) (old mid new : List (List Layer)) (h : StackHead) (r : Reparsed) (going : Going) → mid ≡ old → going ≡ Ended r → GoesTo t text mid new h going → EndsFrom t text old new h r
ends_at t text old mid new h r going kept is goes =
    subst (λ (s : List (List Layer)). EndsFrom t text s new h r) kept (subst (λ (x : Going). GoesTo t text mid new h x) is goes)

-- where no token is known nothing is said of one
pub none_known : (P : FoundToken → Type 0) (f : FoundToken) → ◌≡◌ {A = Option FoundToken} None (Some f) → P f
none_known P f e = absurd (let q : ◌≡◌ {A = Option FoundToken} None (Some f) = e in cc)

-- what is seen stays so where the stacks stay
pub sees_kept : (t : ParseTable) (text : Bytes) (old mid : List (List Layer)) (h : StackHead) (l : Lexed) → mid ≡ old → SeesAhead t text old h l → SeesAhead t text mid h l
sees_kept t text old mid h l kept sees = subst (λ (s : List (List Layer)). SeesAhead t text s h l) (sym kept) sees

-- what is so wherever there is some stack
pub some_has : (P : Type 0) (o : Option StackHead) → P → IfSome o (λ k. P)
some_has P None p = tt
some_has P (Some k) p = p

pub has_some : (P : Type 0) (o : Option StackHead) (k : StackHead) → o ≡ Some k → IfSome o (λ q. P) → P
has_some P o k some p = subst (λ (x : Option StackHead). IfSome x (λ q. P)) some p

-- one stack alone stays so on the head that there is
pub has_one : (old new : List (List Layer)) (top : ℕ) (o : Option StackHead) (k : StackHead) → o ≡ Some k → IfSome o (λ q. IsOneStack old top → IsOneStack new q.top) → IsOneStack old top → IsOneStack new k.top
has_one old new top o k some kept = subst (λ (x : Option StackHead). IfSome x (λ q. IsOneStack old top → IsOneStack new q.top)) some kept
