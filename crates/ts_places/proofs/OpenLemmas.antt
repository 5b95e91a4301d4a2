-- What a head sees is done: a token is shifted, an extra is passed, or neither.
use Rattle.std.proofs.Common.{◌≡◌, ◌∙◌, sym, ap, refl, subst, ℕ, ◌+◌, ◌<◌, ◌≤◌, ◌⊎◌, inl, inr, ⊎_elim, true, List, [], ◌∷◌, length, slice_get, Some, None, arith}
use Rattle.std.specs.List.{Contains}
use Rattle.ts_base.specs.Bytes.{Bytes}
use Rattle.ts_core.specs.declared.action.Action.{Action}
use Rattle.ts_core.specs.declared.action.Action.TheVariants.{Shift}
use Rattle.ts_core.specs.declared.symbol.Symbol.{Symbol}
use Rattle.spec_grammar.specs.Symbols.{is_extra}
use Rattle.spec_lexing.specs.Lexing.{token}
use Rattle.spec_tables.specs.Actions.{Act, shift}
use Rattle.spec_tables.specs.Items.{IsToken}
use Rattle.spec_trees.specs.declared.tree.Tree.{Tree}
use Rattle.spec_trees.specs.Trees.{tree_depth, bare}
use Rattle.spec_trees.specs.Trees as trees
use Rattle.spec_trees.specs.Made.{IsNode, leaf_of, as_extra, most_span}
use Rattle.spec_runs.specs.Configurations.{token_tree, HasMove}
use Rattle.spec_graph.specs.declared.graph.Head.{Head}
use Rattle.spec_graph.specs.declared.graph.Link.{Link}
use Rattle.spec_graph.specs.States.{LeadsTo}
use Rattle.spec_graph.specs.Laying.{Parsing, SeesAt, PassesAt, extra_tree, Lays, flat, shifted, passed}
use Rattle.spec_graph.specs.Links.{IsAt, HasLink}
use Rattle.ts_graph.specs.declared.view.GraphView.{GraphView}
use Rattle.ts_graph.specs.Down.{place_at}
use Rattle.ts_table.specs.declared.view.ParseTable.{ParseTable}
use Rattle.ts_table.specs.Tables.{goto_of, actions_of, IsStateOf}
use Rattle.ts_reductions.specs.SoundLinks.{bare_links}
use Rattle.ts_reductions.specs.Laying.{CanLayOn, HasTree, head_at, WasThere, IsLaid}
use Rattle.ts_reductions.proofs.ClimbLemmas.{one_tree}
use Rattle.ts_reductions.specs.declared.top.Top.{Top}
use Rattle.ts_reductions.specs.Good.{IsGoodTree}
use Rattle.ts_reductions.specs.Sound.{Base, parsing_from, IsSoundBy}
use Rattle.ts_reductions.proofs.KeepLemmas.{keeps_none}
use Rattle.ts_places.specs.declared.sights.Span.{Span}
use Rattle.ts_places.specs.ShiftLaws.{LookLaws, LeafLaws}
use Rattle.ts_places.specs.Looking.{IsTopWith}
use Rattle.ts_places.specs.Shifting.{CanOpen, HasActions, OpensHead, AreBehind, IsHeadOpened}
use Rattle.ts_places.proofs.SeenLemmas.{found_token}
use Rattle.ts_places.proofs.HeadLemmas.{leads_state, one_head, head_sees}
use Rattle.ts_places.proofs.ActionLemmas.{shift_stays, shift_leads, shift_acts, no_move, some_move, extra_token}
use Rattle.ts_places.proofs.LeafLemmas.{SaysLeaf, says_leaf, says_extra, leaf_good, bare_leaf, bare_extra}
use Rattle.ts_places.proofs.GrowLemmas.{place_is_at, at_stays, at_back, grows_none}
use Rattle.ts_places.proofs.KeepLemmas.{IsOwnLeaf, leaf_own, extra_own, keeps_leaf}

module _ (look_laws : LookLaws) (laws : LeafLaws) (t : ParseTable) (text : Bytes) (base : Base) (old : GraphView) (look : ℕ) (top : Top) (span : Span) (can : CanOpen t text base old look top span) where
  abbrev P : Parsing
  P = parsing_from t text base

  abbrev s : IsTopWith t text old look top span
  s = can.sight

  abbrev end : ℕ
  end = look + (span.pad + span.size)

  pub short : span.pad + span.size ≤ most_span
  short = let a = s.past in let b = s.reach in let m = can.sound.laid.parsed.short in omega (arith, a, b, m)

  within : end ≤ length text
  within = let a = s.past in let b = s.reach in omega (arith, a, b)

  -- the head, and the state to which other symbols lead
  abbrev head : Head
  head = s.at.head

  state_after : (read : List ℕ) → IsAt P old.heads top.head read look → IsStateOf t read head.state
  state_after read a = leads_state t read head.state (subst (λ (x : Head). LeadsTo (goto_of t) read x.state) (one_head old.heads top.head a.head head a.is s.at.is) a.state)

  -- ---- what the head sees, after what it was laid on

  module _ (new : GraphView) (sound : IsSoundBy t text base new) (keep : (h : ℕ) (x : Head) → slice_get old.heads h ≡ Some x → slice_get new.heads h ≡ Some x) where
    was_at : (read : List ℕ) → IsAt P new.heads top.head read look → IsAt P old.heads top.head read look
    was_at read a = at_back P old.heads new.heads keep top.head head s.at.is read look a

    -- one token is seen there
    pub record IsIt (symbol : Symbol) (pad size : ℕ) : Type 0 where
      pub token_is : top.token ≡ symbol
      pub pad_is : span.pad ≡ pad
      pub size_is : span.size ≡ size

    parts : (a b : Symbol) (p q n m : ℕ) → token a p n ≡ token b q m → (a ≡ b) × (p ≡ q) × (n ≡ m)
    parts a b p q n m e = ((let h : a ≡ b = cc in h), (let h : p ≡ q = cc in h), (let h : n ≡ m = cc in h))

    it_is : (read : List ℕ) (symbol : Symbol) (pad size : ℕ) → IsAt P new.heads top.head read look → SeesAt P read look (token symbol pad size) → IsIt symbol pad size
    it_is read symbol pad size a sees =
        let e = parts top.token symbol span.pad pad span.size size
        (head_sees look_laws t text new (base, sound) top.head look s.read read (token top.token span.pad span.size) (token symbol pad size) (at_stays P old.heads new.heads keep top.head s.read look s.at) a s.sees sees) in
        record { token_is = e.0; pad_is = e.1; size_is = e.2 }

    -- a link for the tree that is seen, up to a state
    module _ (tree : Symbol → ℕ → ℕ → Tree) (above state : ℕ) (at : slice_get new.heads above ≡ Some (head_at state end)) (has : HasTree (bare_links new.links) top.head (tree top.token span.pad span.size) 1 above) (shallow : tree_depth (tree top.token span.pad span.size) ≤ 1) where
      link_up : (now : List ℕ) → LeadsTo (goto_of t) now state → HasLink P new.heads (bare_links new.links) top.head (tree top.token span.pad span.size) end now
      link_up now leads = record {
        link = has.link;
        there = has.there;
        below = has.below_is;
        above = subst (λ (n : ℕ). IsAt P new.heads n now end) (sym has.above_is) (record { head = head_at state end; is = at; state = leads; place_is = refl });
        stands = record { tree = has.replaces; depth = let n = has.no_less in omega (arith, n, shallow) };
      }

      pub link_of_it : (symbol : Symbol) (pad size : ℕ) (now : List ℕ) → IsIt symbol pad size → LeadsTo (goto_of t) now state → HasLink P new.heads (bare_links new.links) top.head (tree symbol pad size) (look + (pad + size)) now
      link_of_it symbol pad size now i leads =
          subst (λ (z : ℕ). HasLink P new.heads (bare_links new.links) top.head (tree symbol pad z) (look + (pad + z)) now) i.size_is
          (subst (λ (p : ℕ). HasLink P new.heads (bare_links new.links) top.head (tree symbol p span.size) (look + (p + span.size)) now) i.pad_is
          (subst (λ (y : Symbol). HasLink P new.heads (bare_links new.links) top.head (tree y span.pad span.size) end now) i.token_is (link_up now leads)))

  -- ---- a leaf that is laid

  module _ (extent_tree : Tree) (says : SaysLeaf t.grammar span.pad span.size top.ahead extent_tree) (node : IsNode extent_tree) (some : 0 < span.size) (read now : List ℕ) (state : ℕ) (at : IsAt P old.heads top.head read look) (leads : LeadsTo (goto_of t) now state) where
    abbrev u : Tree
    u = extent_tree

    end_is : look + trees.span_of u ≡ end
    end_is = ap (λ (n : ℕ). look + n) says.span

    module _ (lays : Lays P read look (bare u ∷ []) end now) (bare_depth : tree_depth (bare u) ≡ 1) where
      lays_there : Lays P read look (bare u ∷ []) (look + trees.span_of u) now
      lays_there = subst (λ (n : ℕ). Lays P read look (bare u ∷ []) n now) (sym end_is) lays

      pub can_lay : CanLayOn P old top.head u 1 state
      can_lay = record {
        sound = can.sound.laid;
        read = read;
        from = look;
        at = at;
        fits = record {
          now = now;
          leads = leads;
          lays = lays_there;
          shallow = let d = says.depth in omega (arith, d);
          flat = λ e. refl;
          deepest = λ met. (bare u, laws.embeds P can.sound.laid.parsed.fit can.sound.laid.parsed.states met read now look (look + trees.span_of u) (bare u ∷ []) lays_there, bare_depth);
          form = says.form;
          some = let p = says.span in omega (arith, p, some);
          reach = let e = says.extent_is in let r = s.reach in omega (arith, e, r);
          within = let p = says.span in let w = within in omega (arith, p, w);
          not_deep = omega arith;
        };
      }

    module _ (new : GraphView) (above : ℕ) (laid : IsLaid P old new top.head (place_at old.heads top.head) u 1 state above) where
      place_is : place_at old.heads top.head ≡ look
      place_is = place_is_at old.heads top.head head s.at.is ∙ s.at.place_is

      pub at_end : slice_get new.heads above ≡ Some (head_at state end)
      at_end = subst (λ (n : ℕ). slice_get new.heads above ≡ Some (head_at state n)) (ap (λ (n : ℕ). n + trees.span_of u) place_is ∙ end_is) laid.at

      look_is : place_at new.heads top.head ≡ look
      look_is = place_is_at new.heads top.head head (laid.grows.stay top.head head s.at.is) ∙ s.at.place_is

      good : IsGoodTree t.grammar u
      good = leaf_good t.grammar span.pad span.size top.ahead u says node some

      pub sound_still : IsSoundBy t text base new
      sound_still = record { laid = laid.sound; good = λ l there. by l (laid.trees l there) }
        where
          by : (l : Link) → ((l.below ≡ top.head) × (l.tree ≡ u)) ⊎ WasThere old l → IsGoodTree t.grammar l.tree
          by l (inl w) = subst (λ (x : Tree). IsGoodTree t.grammar x) (sym w.1) good
          by l (inr w) = subst (λ (x : Tree). IsGoodTree t.grammar x) (sym w.4) (can.sound.good w.0 w.1)

      behind : AreBehind old new look
      behind h x is = ⊎_elim (λ was. inl was) (λ e. inr (by e)) (laid.only h x is)
        where
          by : h ≡ above → look < x.place
          by e =
              let f : Some x ≡ Some (head_at state end) = sym is ∙ ap (λ (n : ℕ). slice_get new.heads n) e ∙ at_end in
              let one : x ≡ head_at state end = cc in
              let p : x.place ≡ end = ap (λ (y : Head). y.place) one in
              omega (arith, p, some)

      pub opened_by : IsOwnLeaf t.grammar u → OpensHead P new.heads (bare_links new.links) look top.head → IsHeadOpened t text base old new look top.head
      opened_by own opens = record {
        sound = sound_still;
        grows = laid.grows;
        keeps = keeps_leaf t text base old new can.sound.laid laid.grows.stay look u own (one_tree old new top.head look u look_is laid.trees);
        behind = behind;
        opens = opens;
      }

  -- ---- a token is shifted

  module _ (state : ℕ) (actions : List Action) (have : HasActions t old top actions) (there : Contains actions (Shift state)) where
    shifts_there : Contains (actions_of t head.state top.token.0) (Shift state)
    shifts_there =
        let one : have.0 ≡ head = one_head old.heads top.head have.0 head have.1 s.at.is in
        subst (λ (x : Head). Contains (actions_of t x.state top.token.0) (Shift state)) one (subst (λ (l : List Action). Contains l (Shift state)) (sym have.2) there)

    leads_over : (read : List ℕ) → IsAt P old.heads top.head read look → LeadsTo (goto_of t) (top.token.0 ∷ read) state
    leads_over read a = shift_leads t can.table read head.state top.token.0 (state_after read a) state shifts_there

    stays : (read : List ℕ) → IsAt P old.heads top.head read look → Act t.grammar read top.token.0 shift
    stays read a = shift_stays t can.table read head.state top.token.0 (state_after read a) state shifts_there

    is_token : IsToken t.grammar top.token.0
    is_token = (laws.shifts t.grammar s.read top.token.0 (stays s.read s.at)).0

    some_bytes : 0 < span.size
    some_bytes = s.some is_token.0

    module _ (u : Tree) (is : u ≡ leaf_of top.token.0 span.pad span.size top.ahead None) (node : IsNode u) where
      says : SaysLeaf t.grammar span.pad span.size top.ahead u
      says = says_leaf t.grammar top.token.0 span.pad span.size top.ahead None is_token u is

      bare_is : bare u ≡ token_tree top.token span.pad span.size
      bare_is = bare_leaf top.token span.pad span.size top.ahead None u is

      lays : Lays P s.read look (bare u ∷ []) end (top.token.0 ∷ s.read)
      lays = subst (λ (x : Tree). Lays P s.read look (x ∷ []) end (top.token.0 ∷ s.read)) (sym bare_is) (shifted s.read look [] look s.read top.token span.pad span.size (flat s.read look) can.late s.sees (stays s.read s.at))

      bare_depth : tree_depth (bare u) ≡ 1
      bare_depth = (laws.keeps u).depth ∙ says.depth

      pub shift_can : CanLayOn P old top.head u 1 state
      shift_can = can_lay u says node some_bytes s.read (top.token.0 ∷ s.read) state s.at (leads_over s.read s.at) lays bare_depth

      pub shift_done : (new : GraphView) (above : ℕ) → IsLaid P old new top.head (place_at old.heads top.head) u 1 state above → IsHeadOpened t text base old new look top.head
      shift_done new above laid =
          let sound = sound_still u says node some_bytes s.read (top.token.0 ∷ s.read) state s.at (leads_over s.read s.at) new above laid in
          let at = at_end u says node some_bytes s.read (top.token.0 ∷ s.read) state s.at (leads_over s.read s.at) new above laid in
          let has : HasTree (bare_links new.links) top.head (token_tree top.token span.pad span.size) 1 above = subst (λ (x : Tree). HasTree (bare_links new.links) top.head x 1 above) bare_is laid.has in
          let shallow : tree_depth (token_tree top.token span.pad span.size) ≤ 1 = let d = ap tree_depth bare_is in let e = bare_depth in omega (arith, d, e) in
          opened_by u says node some_bytes s.read (top.token.0 ∷ s.read) state s.at (leads_over s.read s.at) new above laid (leaf_own t.grammar u top.token.0 span.pad span.size top.ahead is node is_token some_bytes) (record {
            shifts = λ read symbol pad size a sees act.
                let i = it_is new sound laid.grows.stay read symbol pad size a sees in
                link_of_it new sound laid.grows.stay token_tree above state at has shallow symbol pad size (symbol.0 ∷ read) i
                (subst (λ (y : Symbol). LeadsTo (goto_of t) (y.0 ∷ read) state) i.token_is (leads_over read (was_at new sound laid.grows.stay read a)));
            passes = λ read symbol pad size a passes.
                let i = it_is new sound laid.grows.stay read symbol pad size a passes.sees in
                absurd (passes.none (shift, subst (λ (y : Symbol). Act t.grammar read y.0 shift) i.token_is (stays read (was_at new sound laid.grows.stay read a))));
          })

  -- ---- an extra is passed

  module _ (state : ℕ) (low : Head) (low_is : slice_get old.heads top.head ≡ Some low) (state_is : low.state ≡ state) (none : actions_of t state top.token.0 ≡ []) where
    head_state : head.state ≡ state
    head_state = ap (λ (x : Head). x.state) (one_head old.heads top.head head low s.at.is low_is) ∙ state_is

    none_there : actions_of t head.state top.token.0 ≡ []
    none_there = ap (λ (n : ℕ). actions_of t n top.token.0) head_state ∙ none

    idle : (read : List ℕ) → IsAt P old.heads top.head read look → HasMove t.grammar read top.token.0 → ⊥
    idle read a m = no_move t can.table read head.state top.token.0 (state_after read a) laws none_there m

    is_extra_token : is_extra t.grammar top.token.0 ≡ true
    is_extra_token =
        ⊎_elim (λ m. absurd (idle s.read s.at m)) (λ e. e) ((s.sees.1 top.token).0 (found_token t.grammar s.sees.0 _ top.token span.pad span.size s.sees.2).0)

    token_is : IsToken t.grammar top.token.0
    token_is = extra_token t.grammar top.token can.table.fit is_extra_token

    bytes : 0 < span.size
    bytes = s.some token_is.0

    same_state : (read : List ℕ) → IsAt P old.heads top.head read look → LeadsTo (goto_of t) read state
    same_state read a =
        subst (λ (n : ℕ). LeadsTo (goto_of t) read n) (ap (λ (x : Head). x.state) (one_head old.heads top.head a.head head a.is s.at.is) ∙ head_state) a.state

    own_passes : PassesAt P s.read look top.token span.pad span.size
    own_passes = record { sees = s.sees; extra = is_extra_token; none = idle s.read s.at }

    module _ (u : Tree) (is : u ≡ as_extra (leaf_of top.token.0 span.pad span.size top.ahead None)) (node : IsNode u) where
      extra_says : SaysLeaf t.grammar span.pad span.size top.ahead u
      extra_says = says_extra t.grammar top.token.0 span.pad span.size top.ahead None token_is u is

      extra_is : bare u ≡ extra_tree top.token span.pad span.size
      extra_is = bare_extra laws top.token span.pad span.size top.ahead None u is

      extra_lays : Lays P s.read look (bare u ∷ []) end s.read
      extra_lays = subst (λ (x : Tree). Lays P s.read look (x ∷ []) end s.read) (sym extra_is) (passed s.read look [] look s.read top.token span.pad span.size (flat s.read look) can.late own_passes)

      extra_depth : tree_depth (bare u) ≡ 1
      extra_depth = (laws.keeps u).depth ∙ extra_says.depth

      pub pass_can : CanLayOn P old top.head u 1 state
      pass_can = can_lay u extra_says node bytes s.read s.read state s.at (same_state s.read s.at) extra_lays extra_depth

      pub pass_done : (new : GraphView) (above : ℕ) → IsLaid P old new top.head (place_at old.heads top.head) u 1 state above → IsHeadOpened t text base old new look top.head
      pass_done new above laid =
          let sound = sound_still u extra_says node bytes s.read s.read state s.at (same_state s.read s.at) new above laid in
          let at = at_end u extra_says node bytes s.read s.read state s.at (same_state s.read s.at) new above laid in
          let has : HasTree (bare_links new.links) top.head (extra_tree top.token span.pad span.size) 1 above = subst (λ (x : Tree). HasTree (bare_links new.links) top.head x 1 above) extra_is laid.has in
          let shallow : tree_depth (extra_tree top.token span.pad span.size) ≤ 1 = let d = ap tree_depth extra_is in let e = extra_depth in omega (arith, d, e) in
          opened_by u extra_says node bytes s.read s.read state s.at (same_state s.read s.at) new above laid (extra_own t.grammar u top.token.0 span.pad span.size top.ahead is node token_is bytes) (record {
            shifts = λ read symbol pad size a sees act.
                let i = it_is new sound laid.grows.stay read symbol pad size a sees in
                absurd (idle read (was_at new sound laid.grows.stay read a) (shift, subst (λ (y : Symbol). Act t.grammar read y.0 shift) (sym i.token_is) act));
            passes = λ read symbol pad size a passes.
                let i = it_is new sound laid.grows.stay read symbol pad size a passes.sees in
                link_of_it new sound laid.grows.stay extra_tree above state at has shallow symbol pad size read i (same_state read (was_at new sound laid.grows.stay read a));
          })

  -- ---- neither

  module _ (actions : List Action) (have : HasActions t old top actions) (some_actions : 0 < length actions) (no_shift : (state : ℕ) → Contains actions (Shift state) → ⊥) where
    own_actions : actions_of t head.state top.token.0 ≡ actions
    own_actions =
        let one : have.0 ≡ head = one_head old.heads top.head have.0 head have.1 s.at.is in
        ap (λ (x : Head). actions_of t x.state top.token.0) (sym one) ∙ have.2

    pub stay_done : IsHeadOpened t text base old old look top.head
    stay_done = record {
      sound = can.sound;
      grows = grows_none laws old;
      keeps = keeps_none t.grammar text base old;
      behind = λ h x is. inl is;
      opens = record {
        shifts = λ read symbol pad size a sees act.
            let i = it_is old can.sound (λ h x is. is) read symbol pad size a sees in
            let w = shift_acts t can.table read head.state top.token.0 (state_after read a) laws (subst (λ (y : Symbol). Act t.grammar read y.0 shift) (sym i.token_is) act) in
            absurd (no_shift w.0 (subst (λ (l : List Action). Contains l (Shift w.0)) own_actions w.1));
        passes = λ read symbol pad size a passes.
            let i = it_is old can.sound (λ h x is. is) read symbol pad size a passes.sees in
            let n = ap (λ (l : List Action). length l) own_actions in
            absurd (passes.none (subst (λ (y : Symbol). HasMove t.grammar read y.0) i.token_is (some_move t can.table read head.state top.token.0 (state_after read a) (omega (arith, n, some_actions)))));
      };
    }
