-- From one key of a place to a later one, where nothing is due between the two.
use Rattle.std.proofs.Common.{◌≡◌, sym, refl, subst, ℕ, zero, suc, ◌+◌, ◌<◌, ◌≤◌, ◌⊎◌, inl, inr, ⊎_elim, List, ◌++◌, arith}
use Rattle.std.proofs.lemmas.Bool.{cases_order}
use Rattle.ts_base.specs.Bytes.{Bytes}
use Rattle.spec_grammar.specs.Symbols.{symbol_count}
use Rattle.spec_graph.specs.States.{AreRanks}
use Rattle.spec_graph.specs.Laying.{Parsing}
use Rattle.spec_graph.specs.Keys.{Key, IsNextKey}
use Rattle.spec_graph.specs.Links.{IsGraph, HasNoneDue}
use Rattle.ts_graph.specs.declared.view.GraphView.{GraphView}
use Rattle.ts_table.specs.declared.view.ParseTable.{ParseTable}
use Rattle.ts_table.specs.Tables.{IsTable}
use Rattle.ts_table.specs.Ranks.{unit_rank}
use Rattle.ts_reductions.specs.SoundLinks.{bare_links}
use Rattle.ts_reductions.specs.declared.setting.Setting.{Setting}
use Rattle.ts_reductions.specs.declared.top.Top.{Top}
use Rattle.ts_reductions.specs.Asking.{IsReady, ByTops}
use Rattle.ts_reductions.specs.Laws.{ReductionLaws, NodeLaws}
use Rattle.ts_reductions.specs.Sound.{Base, parsing_from, IsSoundBy}
use Rattle.ts_reductions.proofs.LineLemmas.{few_symbols}
use Rattle.ts_reductions.proofs.RankLemmas.{height_most}
use Rattle.ts_reductions.proofs.DoneLemmas.{seen_top, asked}
use Rattle.ts_reductions.proofs.DoneLemmas as done
use Rattle.ts_places.specs.ShiftLaws.{LeafLaws}
use Rattle.ts_places.specs.Passing.{first_key}
use Rattle.ts_reductions.proofs.KeepLemmas.{keeps_none}
use Rattle.ts_places.proofs.GrowLemmas.{grows_none, grows_grown}
use Rattle.ts_places.specs.declared.seeking.Seek.{Seek}
use Rattle.ts_places.specs.SweepLaws.{KeyLaws}
use Rattle.ts_places.specs.Turns.{turn_of}
use Rattle.ts_places.specs.Seeking.{batch_at, CanSeek, IsSought}
use Rattle.ts_places.specs.Sweeping.{IsWholeBy, last_key, IsDoneTo, IsSmall, key_at, After}

apart : (a b : ℕ) → b ≤ a → (n : ℕ) × (a ≡ n + b)
apart a zero le = (a, omega arith)
apart zero (suc b) le = absurd (omega (arith, le))
apart (suc a) (suc b) le = let r = apart a b (omega (arith, le)) in let e = r.1 in (r.0, omega (arith, e))

module _ (laws : LeafLaws) (keys : KeyLaws) (t : ParseTable) (text : Bytes) (base : Base) (most : ℕ) (ranks : AreRanks t.grammar (unit_rank t.grammar) most) (g : GraphView) (sound : IsSoundBy t text base g) (look : ℕ) where
  abbrev P : Parsing
  P = parsing_from t text base

  graph : IsGraph P g.heads (bare_links g.links)
  graph = sound.laid.graph

  abbrev None_at : ℕ → ℕ → Type 0
  None_at b i = HasNoneDue P (unit_rank t.grammar) g.heads (bare_links g.links) (key_at look b i)

  abbrev Whole : ℕ → ℕ → Type 0
  Whole b i = IsWholeBy t text base g (key_at look b i)

  -- a lower rank
  lower : (b r s : ℕ) → s ≤ r → ((i : ℕ) → s < i → i ≤ r → None_at b i) → Whole b r → Whole b s
  lower b r s le none whole =
      let n = apart r s le in
      keys.ranks P sound.laid.parsed.fit sound.laid.parsed.states sound.laid.parsed.grounded (unit_rank t.grammar) most ranks g.heads (bare_links g.links) graph n.0 look b s
      (subst (λ (m : ℕ). Whole b m) n.1 whole)
      (λ i low high. none i low (subst (λ (m : ℕ). i ≤ m) (sym n.1) high))

  -- an earlier start
  earlier : (c d : ℕ) → d ≤ c → ((b i : ℕ) → d < b → b ≤ c → i ≤ most → None_at b i) → Whole c most → Whole d most
  earlier c d le none whole =
      let n = apart c d le in
      keys.starts P sound.laid.parsed.fit sound.laid.parsed.states sound.laid.parsed.grounded (unit_rank t.grammar) most ranks g.heads (bare_links g.links) graph n.0 look d
      (subst (λ (m : ℕ). Whole m most) n.1 whole)
      (λ b i low high few. none b i low (subst (λ (m : ℕ). b ≤ m) (sym n.1) high) few)

  -- the start before
  one_earlier : (c : ℕ) → None_at (suc c) 0 → Whole (suc c) 0 → Whole c most
  one_earlier c none whole =
      keys.on P sound.laid.parsed.fit sound.laid.parsed.states sound.laid.parsed.grounded (unit_rank t.grammar) most ranks g.heads (bare_links g.links) g.heads (bare_links g.links)
      (key_at look (suc c) 0) (key_at look c most) graph whole
      (λ number left p h e b outer inner over now end due. absurd (none number left p h e b outer inner over now end due))
      (grows_grown laws P g g (grows_none laws g))
      (record { each = λ b read from a. inl a })
      (keys.start most look c) refl

  -- from a key on to one that is no earlier
  go : (b r b' r' : ℕ) → (b' < b) ⊎ ((b' ≡ b) × (r' ≤ r)) → r' ≤ most
      → ((x i : ℕ) → (x < b) ⊎ ((x ≡ b) × (i ≤ r)) → After x i b' r' → None_at x i)
      → Whole b r → Whole b' r'
  go b r b' r' (inr same) few none whole =
      subst (λ (x : ℕ). Whole x r') (sym same.0)
      (lower b r r' same.1 (λ i low high. none b i (inr (refl, high)) (inr (same.0, low))) whole)
  go zero r b' r' (inl less) few none whole = absurd (omega (arith, less))
  go (suc c) r b' r' (inl less) few none whole =
      lower b' most r' few (λ i low high. none b' i (inl less) (inr (refl, low)))
      (earlier c b' (omega (arith, less)) (λ x i low high few'. none x i (inl (omega (arith, high))) (inl low))
      (one_earlier c (none (suc c) 0 (inr (refl, omega arith)) (inl less))
      (lower (suc c) r 0 (omega arith) (λ i low high. none (suc c) i (inr (refl, high)) (inl less)) whole)))

  -- the key after one whose reductions were done
  next_on : (k m : Key) → k.look ≡ look → k.look ≡ m.look → IsNextKey most k m → IsDoneTo t text base g k → IsWholeBy t text base g m
  next_on k m here same next d =
      keys.on P d.sound.laid.parsed.fit d.sound.laid.parsed.states d.sound.laid.parsed.grounded (unit_rank t.grammar) most ranks d.before.heads (bare_links d.before.links) g.heads (bare_links g.links)
      k m d.sound.laid.graph d.whole d.reduced.done d.reduced.grown (d.reduced.added m (sym same)) next same

  -- from a key whose reductions were done to a later one, where nothing is due between
  pub passes : (b r b' r' : ℕ) → After b r b' r' → r' ≤ most → ((x i : ℕ) → After b r x i → After x i b' r' → None_at x i) → IsDoneTo t text base g (key_at look b r) → Whole b' r'
  passes b (suc r) b' r' after few none d =
      go b r b' r' (⊎_elim (λ less. inl less) (λ same. inr (same.0, (let l = same.1 in omega (arith, l)))) after) few
      (λ x i from to. none x i (⊎_elim (λ less. inl less) (λ same. inr (same.0, (let l = same.1 in omega (arith, l)))) from) to)
      (next_on (key_at look b (suc r)) (key_at look b r) refl refl (keys.rank most look b r) d)
  passes zero zero b' r' (inl less) few none d = absurd (omega (arith, less))
  passes zero zero b' r' (inr same) few none d = absurd (let l = same.1 in omega (arith, l))
  passes (suc c) zero b' r' (inr same) few none d = absurd (let l = same.1 in omega (arith, l))
  passes (suc c) zero b' r' (inl less) few none d =
      go c most b' r' (below (cases_order b' c)) few
      (λ x i from to. none x i (inl (⊎_elim (λ l. omega (arith, l)) (λ s. let e = s.0 in omega (arith, e)) from)) to)
      (next_on (key_at look (suc c) 0) (key_at look c most) refl refl (keys.start most look c) d)
    where
      below : (b' ≡ c) ⊎ ((b' < c) ⊎ (c < b')) → (b' < c) ⊎ ((b' ≡ c) × (r' ≤ most))
      below (inl e) = inr (e, few)
      below (inr (inl l)) = inl l
      below (inr (inr m)) = absurd (omega (arith, m, less))

  -- at a key at which nothing is due all is done
  pub idle : (k : Key) → HasNoneDue P (unit_rank t.grammar) g.heads (bare_links g.links) k → IsWholeBy t text base g k → IsDoneTo t text base g k
  idle k none whole = record {
    before = g;
    sound = sound;
    whole = whole;
    reduced = record {
      sound = sound;
      grows = grows_none laws g;
      keeps = keeps_none t.grammar text base g;
      done = λ number left p h e b outer inner over now end due. absurd (none number left p h e b outer inner over now end due);
      grown = grows_grown laws P g g (grows_none laws g);
      only = λ h head is. inl is;
      added = λ m same. record { each = λ b read from a. inl a };
    };
  }

  -- no node has the rank of the first key
  pub first_done : IsWholeBy t text base g (first_key most look) → IsDoneTo t text base g (first_key most look)
  first_done whole = idle (first_key most look) (λ number left p h e b outer inner over now end due. let r = due.ranked in let l = ranks.below left in omega (arith, r, l)) whole

  -- where nothing is due after a key, the last key of the place is done
  pub all_past : (b r : ℕ) → ((x i : ℕ) → After b r x i → None_at x i) → IsDoneTo t text base g (key_at look b r) → IsDoneTo t text base g (last_key look)
  all_past zero zero none d = d
  all_past (suc b) r none d =
      idle (last_key look) (none 0 0 (inl (omega arith)))
      (passes (suc b) r 0 0 (inl (omega arith)) (omega arith) (λ x i from to. none x i from) d)
  all_past zero (suc r) none d =
      idle (last_key look) (none 0 0 (inr (refl, omega arith)))
      (passes zero (suc r) 0 0 (inr (refl, omega arith)) (omega arith) (λ x i from to. none x i from) d)

-- ---- what is due is sought

module _ (laws : ReductionLaws) (nodes : NodeLaws) (t : ParseTable) (table : IsTable t) (text : Bytes) (base : Base) (s : Setting) (g : GraphView) (seek : Seek) (tops : List Top) (ready : CanSeek t text base s g seek tops) where
  ready_for : (b r : ℕ) → IsReady t text base s g (batch_at seek.look b r) tops
  ready_for b r = record { sound = ready.sound; late = ready.late; setting = ready.setting; seen = ready.seen; takes_some = ready.takes_some }

  pub none_due : (b r : ℕ) → (IsSmall b r → turn_of b r < seek.below) → (IsSought t g seek (ByTops tops) (batch_at seek.look b r) → ⊥)
      → HasNoneDue (parsing_from t text base) (unit_rank t.grammar) g.heads (bare_links g.links) (key_at seek.look b r)
  none_due b r after none number left p h e low outer inner over now end due =
      let seen = seen_top laws nodes t table text base s g (batch_at seek.look b r) tops (ready_for b r) number left p h e low outer inner over now end due in
      none (record {
        top = seen.0;
        number = number;
        way = (done.high laws nodes t table text base s g (batch_at seek.look b r) tops (ready_for b r) number left p h e low outer inner over now end due).own ++ (done.low laws nodes t table text base s g (batch_at seek.look b r) tops (ready_for b r) number left p h e low outer inner over now end due).own;
        b = low;
        means = seen.1;
        asked = asked laws nodes t table text base s g (batch_at seek.look b r) tops (ready_for b r) number left p h e low outer inner over now end due;
        look_is = refl;
        after = after small;
      })
    where
      small : IsSmall b r
      small = (
        (let w = ready.sound.laid.within low due.bottom.head due.bottom.is in let q = due.bottom.place_is in let l = ready.sound.laid.parsed.short in omega (arith, w, q, l)),
        (let h = height_most t.grammar (symbol_count t.grammar) left in let f = few_symbols t.grammar ready.sound.laid.parsed.fit in let e = due.ranked in omega (arith, h, f, e)),
      )
