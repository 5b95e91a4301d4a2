-- What a reduction takes off a good stack.
use Rattle.std.proofs.Common.{◌≡◌, ◌∙◌, sym, ap, refl, subst, ℕ, suc, ◌+◌, ◌^◌, ◌<◌, ◌≤◌, ◌↔◌, IsTrue, List, ◌++◌, length, reverse, arith}
use Rattle.std.proofs.lemmas.List.{reverse-append, reverse-reverse}
use Rattle.spec_trees.specs.declared.tree.Tree.{Tree}
use Rattle.spec_trees.specs.Trees.{all_spans}
use Rattle.spec_trees.specs.Made.{filling, BeginsFilled, EndBy, most_span}
use Rattle.spec_runs.specs.Configurations.{AreExtras}
use Rattle.ts_table.specs.declared.view.ParseTable.{ParseTable}
use Rattle.ts_gss.specs.declared.layer.Layer.{Layer}
use Rattle.ts_gss.specs.Stacks.{trees_on}
use Rattle.ts_gss.specs.Paths.{IsLifted, IsTakenOff}
use Rattle.ts_steps.specs.Good.{IsGoodTree, AreGoodTrees}
use Rattle.spec_forced.specs.Sound.{EachHasState}
use Rattle.ts_steps.specs.LiveHeads.{HaveStates, HaveDepths, IsGoodStack, IsGathered, AreLayersTaken}
use Rattle.ts_steps.specs.Making.{IsSeenOf}
use Rattle.ts_steps.specs.Reducing.{CoversMaking, IsGatheredBy}
use Rattle.ts_steps.specs.declared.gathering.Gathered.{Gathered}
use Rattle.ts_steps.specs.declared.making.Seen.{Seen}
use Rattle.ts_steps.proofs.NodeLemmas.{all_spans-append, end_by_wider, each_left, each_right, each_turned}
use Rattle.ts_steps.proofs.StackLemmas.{end_by_split, spans_turned, extras_turned, filling_extras, states_drop, depths_drop}

-- ---- what was examined

abbrev pub HasRoomFor : List Tree → List Tree → ℕ → Type 0
HasRoomFor children extras ahead =
    (limit start : ℕ) × (limit < 2 ^ 31) × EndBy limit start children × EndBy limit (start + all_spans children) extras
    × (start + (all_spans children + (all_spans extras + ahead)) ≤ limit)

pub room_behind : (children extras es : List Tree) (ahead : ℕ) → es ≡ extras → HasRoomFor children extras ahead → (limit start : ℕ) × (limit < 2 ^ 31) × EndBy limit start es × (start + (all_spans es + ahead) ≤ limit)
room_behind children extras es ahead is r =
    let limit = r.0 in
    let start = r.1 in
    let sum = r.5 in
    subst (λ (l : List Tree). (limit start : ℕ) × (limit < 2 ^ 31) × EndBy limit start l × (start + (all_spans l + ahead) ≤ limit)) (sym is)
    (limit, start + all_spans children, r.2, r.4, omega (arith, sum))

pub room_before : (children extras cs : List Tree) (ahead : ℕ) (behind : Seen) → cs ≡ children → IsSeenOf extras ahead behind → HasRoomFor children extras ahead → (limit start : ℕ) × (limit < 2 ^ 31) × EndBy limit start cs × (start + (all_spans cs + behind.extent) ≤ limit)
room_before children extras cs ahead behind is k r =
    let limit = r.0 in
    let start = r.1 in
    let sum = r.5 in
    let m = k.most (start + all_spans children) limit (omega (arith, sum)) r.4 in
    subst (λ (l : List Tree). (limit start : ℕ) × (limit < 2 ^ 31) × EndBy limit start l × (start + (all_spans l + behind.extent) ≤ limit)) (sym is)
    (limit, start, r.2, r.3, omega (arith, m))

-- all of it but what was examined
pub record Parts (t : ParseTable) (size : ℕ) (stack : List Layer) (place count : ℕ) (extras children : List Tree) (below : List Layer) : Type 0 where
  pub trees : trees_on stack ≡ reverse extras ++ (reverse children ++ trees_on below)
  pub all_extras : AreExtras extras
  pub no_more : BeginsFilled (reverse children ++ trees_on below)
  pub begins : BeginsFilled children
  pub filled : length (filling children) ≡ count
  pub good_extras : AreGoodTrees t.grammar extras
  pub good_children : AreGoodTrees t.grammar children
  pub base : IsGoodStack t size below (all_spans (trees_on below))
  pub place_is : all_spans (trees_on below) + (all_spans children + all_spans extras) ≡ place
  pub within : place ≤ size
  pub reach_children : EndBy (suc size) (all_spans (trees_on below)) children
  pub reach_extras : EndBy (suc size) (all_spans (trees_on below) + all_spans children) extras

turned_all : (e c b : List Tree) → reverse (reverse e ++ (reverse c ++ b)) ≡ (reverse b ++ c) ++ e
turned_all e c b =
    reverse-append (reverse e) (reverse c ++ b)
    ∙ ap (λ (l : List Tree). l ++ reverse (reverse e)) (reverse-append (reverse c) b)
    ∙ ap (λ (l : List Tree). (reverse b ++ l) ++ reverse (reverse e)) (reverse-reverse c)
    ∙ ap (λ (l : List Tree). (reverse b ++ c) ++ l) (reverse-reverse e)

-- the stack under the extras has the same symbols
pub under_symbols : (stack under : List Layer) (lifted : List Tree) → IsLifted stack lifted under → filling (trees_on stack) ≡ filling (trees_on under)
under_symbols stack under lifted l = ap filling l.trees ∙ filling_extras lifted (trees_on under) l.all_extras

module _ (t : ParseTable) (size place count : ℕ) (stack under below : List Layer) (lifted extras children : List Tree) where
  pub parts : IsGoodStack t size stack place → IsLifted stack lifted under → IsTakenOff under count children below → extras ≡ reverse lifted → Parts t size stack place count extras children below
  parts s l k extras_is =
      let back : lifted ≡ reverse extras = sym (ap (λ (x : List Tree). reverse x) extras_is ∙ reverse-reverse lifted) in
      let trees : trees_on stack ≡ reverse extras ++ (reverse children ++ trees_on below) =
      l.trees ∙ ap (λ (x : List Tree). x ++ trees_on under) back ∙ ap (λ (x : List Tree). reverse extras ++ x) k.trees_are in
      let good : AreGoodTrees t.grammar (reverse extras ++ (reverse children ++ trees_on below)) = subst (λ (x : List Tree). AreGoodTrees t.grammar x) trees s.good in
      let rest : AreGoodTrees t.grammar (reverse children ++ trees_on below) = each_right (IsGoodTree t.grammar) (reverse extras) (reverse children ++ trees_on below) good in
      let front : AreGoodTrees t.grammar (reverse extras) = each_left (IsGoodTree t.grammar) (reverse extras) (reverse children ++ trees_on below) good in
      let own : AreGoodTrees t.grammar (reverse children) = each_left (IsGoodTree t.grammar) (reverse children) (trees_on below) rest in
      let low : AreGoodTrees t.grammar (trees_on below) = each_right (IsGoodTree t.grammar) (reverse children) (trees_on below) rest in
      let reach : EndBy (suc size) 0 ((reverse (trees_on below) ++ children) ++ extras) =
      subst (λ (x : List Tree). EndBy (suc size) 0 x) (ap (λ (x : List Tree). reverse x) trees ∙ turned_all extras children (trees_on below)) s.reach in
      let outer = end_by_split (suc size) 0 (reverse (trees_on below) ++ children) extras reach in
      let inner = end_by_split (suc size) 0 (reverse (trees_on below)) children outer.0 in
      let total : all_spans (trees_on stack) ≡ all_spans (reverse extras ++ (reverse children ++ trees_on below)) = ap all_spans trees in
      let a = all_spans-append (reverse extras) (reverse children ++ trees_on below) in
      let b = all_spans-append (reverse children) (trees_on below) in
      let c = all_spans-append (reverse (trees_on below)) children in
      let d = spans_turned extras in
      let e = spans_turned children in
      let f = spans_turned (trees_on below) in
      let sp = s.spans in
      let w = s.within in
      record {
        trees = trees;
        all_extras = subst AreExtras (sym extras_is) (extras_turned lifted l.all_extras);
        no_more = subst BeginsFilled k.trees_are l.no_more;
        begins = k.begins;
        filled = k.filled;
        good_extras = subst (λ (x : List Tree). AreGoodTrees t.grammar x) (reverse-reverse extras) (each_turned (IsGoodTree t.grammar) (reverse extras) front);
        good_children = subst (λ (x : List Tree). AreGoodTrees t.grammar x) (reverse-reverse children) (each_turned (IsGoodTree t.grammar) (reverse children) own);
        base = record {
          depths = subst (λ (x : List Layer). HaveDepths x) (sym k.rest) (depths_drop (length children) under (subst (λ (x : List Layer). HaveDepths x) (sym l.rest) (depths_drop (length lifted) stack s.depths)));
          states = subst (λ (x : List Layer). HaveStates t x) (sym k.rest) (states_drop t (length children) under (subst (λ (x : List Layer). HaveStates t x) (sym l.rest) (states_drop t (length lifted) stack s.states)));
          good = low;
          spans = refl;
          reach = inner.0;
          within = omega arith;
        };
        place_is = omega arith;
        within = w;
        reach_children = end_by_wider (suc size) (suc size) (0 + all_spans (reverse (trees_on below))) (all_spans (trees_on below)) children (omega arith) (omega arith) inner.1;
        reach_extras = end_by_wider (suc size) (suc size) (0 + all_spans (reverse (trees_on below) ++ children)) (all_spans (trees_on below) + all_spans children) extras (omega arith) (omega arith) outer.1;
      }

  pub gathered : (extent ahead : ℕ) → Parts t size stack place count extras children below → place + ahead ≤ suc size → EndBy extent 0 children → all_spans children < extent
      → ((start limit : ℕ) → start + (all_spans children + (all_spans extras + ahead)) ≤ limit → EndBy limit start children → EndBy limit (start + all_spans children) extras → start + extent ≤ limit)
      → IsGathered t size stack place count extras children extent below
  gathered extent ahead p room covers past most = record {
    trees = p.trees;
    all_extras = p.all_extras;
    no_more = p.no_more;
    begins = p.begins;
    filled = p.filled;
    good_extras = p.good_extras;
    good_children = p.good_children;
    base = p.base;
    place_is = p.place_is;
    within = p.within;
    covers = covers;
    past = past;
    most = most (all_spans (trees_on below)) (suc size) (omega (arith, p.place_is, room)) p.reach_children p.reach_extras;
    reach = p.reach_extras;
  }

  -- there is room for what was examined
  pub room_for : (ahead : ℕ) → Parts t size stack place count extras children below → place + ahead ≤ suc size → size ≤ most_span → HasRoomFor children extras ahead
  room_for ahead p room short = (
    suc size,
    all_spans (trees_on below),
    (omega (arith, short)),
    p.reach_children,
    p.reach_extras,
    (omega (arith, p.place_is, room)),
  )

  -- what is known of what was taken off
  pub all_gathered : (ahead : ℕ) (r : Gathered) → Parts t size stack place count extras children below → place + ahead ≤ suc size → 0 < ahead → r.extras.items ≡ extras → r.children.items ≡ children
      → EndBy r.extent 0 children → EndBy r.extent (all_spans children) extras → all_spans children + (all_spans extras + ahead) ≤ r.extent
      → ((start limit : ℕ) → start + (all_spans children + (all_spans extras + ahead)) ≤ limit → EndBy limit start children → EndBy limit (start + all_spans children) extras → start + r.extent ≤ limit)
      → IsTrue r.stated ↔ (EachHasState children × EachHasState extras) → AreLayersTaken stack extras children r.first r.others below → IsGatheredBy t size stack place count ahead r below
  all_gathered ahead r p room some es cs covers lifted past most stated layers =
      let g : IsGathered t size stack place count extras children r.extent below = gathered r.extent ahead p room covers (omega (arith, past, some)) most in
      let k : CoversMaking r.extent ahead children extras = record {
        inner = covers;
        lifted = lifted;
        reach = past;
        least = λ limit own behind all. let m = most 0 limit (omega (arith, all)) own (subst (λ (n : ℕ). EndBy limit n extras) (zero_first (all_spans children)) behind) in omega (arith, m);
      } in
      record {
        gathered = subst (λ (l : List Tree). IsGathered t size stack place count l r.children.items r.extent below) (sym es) (subst (λ (l : List Tree). IsGathered t size stack place count extras l r.extent below) (sym cs) g);
        covers = subst (λ (l : List Tree). CoversMaking r.extent ahead r.children.items l) (sym es) (subst (λ (l : List Tree). CoversMaking r.extent ahead l extras) (sym cs) k);
        stated = subst (λ (l : List Tree). IsTrue r.stated ↔ (EachHasState r.children.items × EachHasState l)) (sym es) (subst (λ (l : List Tree). IsTrue r.stated ↔ (EachHasState l × EachHasState extras)) (sym cs) stated);
        layers = subst (λ (l : List Tree). AreLayersTaken stack l r.children.items r.first r.others below) (sym es) (subst (λ (l : List Tree). AreLayersTaken stack extras l r.first r.others below) (sym cs) layers);
      }
    where
      zero_first : (n : ℕ) → n ≡ 0 + n
      zero_first n = omega arith
