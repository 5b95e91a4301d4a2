-- Matches that are added to a set, but for what was left out.
use Rattle.std.proofs.Common.{◌≡◌, ◌∙◌, sym, subst, ℕ, ◌+◌, ◌<◌, ◌≤◌, ◌⊎◌, inl, inr, ⊎_elim, List, [], ◌∷◌, ◌++◌, length, take, get_or, Bool, true, false}
use Rattle.std.specs.BTreeSet.{BTreeSet}
use Rattle.std.proofs.lemmas.List.{take_all, take_more}
use Rattle.std.proofs.lemmas.List.Elements.{Contains-append_left, Contains-push, Contains-push_cases}
use Rattle.ts_query_syntax.specs.declared.read_query.Item.{Item}
use Rattle.ts_query_syntax.specs.declared.read_query.Pattern.{Pattern}
use Rattle.spec_matches.specs.declared.found.Capture.{Capture}
use Rattle.spec_matches.specs.declared.found.Capture.{Capture}
use Rattle.spec_matches.specs.declared.found.Match.{Match}
use Rattle.spec_matches.specs.declared.placing.Placing.{Placing}
use Rattle.spec_matches.specs.declared.scene.Scene.{Scene}
use Rattle.spec_matches.specs.Taking.{Embedded}
use Rattle.ts_search.specs.Adding.{OfSome, Yields}
use Rattle.ts_search.specs.Gathering.{Gathers, GathersSome, Hits, HitsIn, IsFull}
use Rattle.ts_search.specs.declared.stand.Wanted.TheVariants.{All}
use Rattle.ts_search.specs.Memory.{Told}
use Rattle.ts_search.specs.Sets.{SameMembers, SameWay}
use Rattle.ts_search.specs.Single.{HitAt, HitsAt}
use Rattle.ts_search.specs.Ways.{ItemTakes}
use Rattle.ts_search.proofs.GainLemmas.{not_both}
use Rattle.ts_search.proofs.PlaceLemmas.{none_in_nil}

module _ (P Q : Match → Type 0) where
  pub some_same : (u v : Bool) (a b : BTreeSet Match) → GathersSome P u v a b → ((m : Match) → P m → Q m) → ((m : Match) → Q m → P m) → GathersSome Q u v a b
  some_same u v a b g to from = record {
    only = λ m h. ⊎_elim (λ o. inl o) (λ n. inr (to m n)) (g.only m h);
    stays = g.stays;
    full = g.full;
    earlier = g.earlier;
    all = λ e free m q. g.all e free m (from m q);
  }

  -- where some of the elements were left out
  pub some_of : (u v : Bool) (a b : BTreeSet Match) → Gathers P a b → (v ≡ false → u ≡ false) → ((m : Match) → P m → Q m) → (v ≡ false → (m : Match) → Q m → P m) → GathersSome Q u v a b
  some_of u v a b g earlier to from = record {
    only = λ m h. ⊎_elim (λ o. inl o) (λ n. inr (to m n)) (g.only m h);
    stays = g.stays;
    full = g.full;
    earlier = earlier;
    all = λ e free m q. g.all free m (from e m q);
  }

module _ (P : Match → Type 0) where
  -- nothing is said of whether any were left out
  pub some_unsaid : (u v : Bool) (a b : BTreeSet Match) → GathersSome P u v a b → GathersSome P true true a b
  some_unsaid u v a b g = record { only = g.only; stays = g.stays; full = g.full; earlier = λ e. e; all = λ e. absurd (not_both true (λ k. true) e) }

  pub some_all : (u v : Bool) (a b : BTreeSet Match) → GathersSome P u v a b → v ≡ false → Gathers P a b
  some_all u v a b g e = record { only = g.only; stays = g.stays; full = g.full; all = g.all e }

  pub some_full : (u v : Bool) (a b : BTreeSet Match) → GathersSome P u v a b → IsFull b → Gathers P a b
  some_full u v a b g full = record { only = g.only; stays = g.stays; full = g.full; all = λ free m p. absurd (free full) }

  -- after a try that left some out
  pub some_then : (u v : Bool) (a b c : BTreeSet Match) → GathersSome P u v a b → Gathers P b c → Gathers P a c
  some_then u v a b c g h = record {
    only = λ m x. ⊎_elim (λ o. g.only m o) (λ n. inr n) (h.only m x);
    stays = λ m x. h.stays m (g.stays m x);
    full = λ f. h.full (g.full f);
    all = h.all;
  }

pub some_both : (P Q R : Match → Type 0) (u v w : Bool) (a b c : BTreeSet Match) → GathersSome P u v a b → GathersSome Q v w b c → ((m : Match) → P m → R m) → ((m : Match) → Q m → R m) → ((m : Match) → R m → P m ⊎ Q m)
    → GathersSome R u w a c
some_both P Q R u v w a b c p q first second either = record {
  only = λ m h. ⊎_elim (λ old. ⊎_elim (λ o. inl o) (λ n. inr (first m n)) (p.only m old)) (λ n. inr (second m n)) (q.only m h);
  stays = λ m h. q.stays m (p.stays m h);
  full = λ f. q.full (p.full f);
  earlier = λ e. p.earlier (q.earlier e);
  all = λ e free m r. ⊎_elim (λ n. q.stays m (p.all (q.earlier e) (λ f. free (q.full f)) m n)) (λ n. q.all e free m n) (either m r);
}

-- one more of the elements that a loop goes over
module _ {Y : Type 0} (S : Y → Match → Type 0) where
  pub some_hits_none : (w : Bool) (s : BTreeSet Match) → GathersSome (OfSome S []) w w s s
  some_hits_none w s = record { only = λ m h. inl h; stays = λ m h. h; full = λ f. f; earlier = λ e. e; all = λ e free m h. absurd (none_in_nil h.0 h.1) }

  pub some_hits_more : (ys : List Y) (n : ℕ) (d : Y) (u v w : Bool) (a b c : BTreeSet Match) → n < length ys → GathersSome (OfSome S (take n ys)) u v a b → GathersSome (S (get_or ys n d)) v w b c
      → GathersSome (OfSome S (take (n + 1) ys)) u w a c
  some_hits_more ys n d u v w a b c below before one =
      let y : Y = get_or ys n d in
      subst (λ (l : List Y). GathersSome (OfSome S l) u w a c) (sym (take_more ys n d below))
      (some_both (OfSome S (take n ys)) (S y) (OfSome S (take n ys ++ y ∷ [])) u v w a b c before one
      (λ m h. (h.0, Contains-append_left (take n ys) (y ∷ []) h.0 h.1, h.2))
      (λ m h. (y, Contains-push (take n ys) y, h))
      (λ m h. ⊎_elim (λ x. inl (h.0, x, h.2)) (λ e. inr (subst (λ (z : Y). S z m) (sym e) h.2)) (Contains-push_cases (take n ys) y h.0 h.1)))

  pub some_hits_all : (ys : List Y) (n : ℕ) (u v : Bool) (a b : BTreeSet Match) → length ys ≤ n → GathersSome (OfSome S (take n ys)) u v a b → GathersSome (OfSome S ys) u v a b
  some_hits_all ys n u v a b past h = subst (λ (l : List Y). GathersSome (OfSome S l) u v a b) (take_all n ys past) h

hit_like : (kept : Match → Type 0) (k n : ℕ) (c d : List Capture) → SameMembers c d → (m : Match) → HitAt kept k n c m → HitAt kept k n d m
hit_like kept k n c d s m h = record { pattern = h.pattern; root = h.root; members = λ x. ((λ w. (s x).0 ((h.members x).0 w)), (λ w. (h.members x).1 ((s x).1 w))); order = h.order; keeps = h.keeps }

pub taken_hits : (scene : Scene) (kept : Match → Type 0) (k : ℕ) (i : Item) (n : ℕ) (u v : Bool) (ways : List (List Capture)) (a b : BTreeSet Match) → Yields SameMembers (ItemTakes scene i 0 n) u v ways
    → Gathers (OfSome (HitAt kept k n) ways) a b → GathersSome (HitsAt scene kept k i n) u v a b
taken_hits scene kept k i n u v ways a b are adds =
    some_of (OfSome (HitAt kept k n) ways) (HitsAt scene kept k i n) u v a b adds are.earlier
    (λ m h. let d = are.part.only h.0 h.1 in (d.0, d.1, hit_like kept k n h.0 d.0 d.2 m h.2))
    (λ e m h. let d = are.all e h.0 h.1 in (d.0, d.1, hit_like kept k n h.0 d.0 d.2 m h.2))

way_hit_like : (kept : Match → Type 0) (k : ℕ) (siblings : List ℕ) (f g : Placing) → SameWay f g → (m : Match) → Hits kept k siblings f m → Hits kept k siblings g m
way_hit_like kept k siblings f g s m h = record {
  pattern = h.pattern;
  comes = record {
    place = h.comes.place;
    first = sym s.first ∙ h.comes.first;
    root = h.comes.root;
    members = λ x. ((λ w. (s.captures x).0 ((h.comes.members x).0 w)), (λ w. (h.comes.members x).1 ((s.captures x).1 w)));
    order = h.comes.order;
  };
  keeps = h.keeps;
}

pub hits_in : (scene : Scene) (kept : Match → Type 0) (k : ℕ) (pattern : Pattern) (siblings : List ℕ) (u v : Bool) (found : List Placing) (a b : BTreeSet Match)
    → Yields SameWay (Told All 0 (Embedded scene pattern.items pattern.closed siblings)) u v found → Gathers (OfSome (Hits kept k siblings) found) a b → GathersSome (HitsIn scene kept k pattern siblings) u v a b
hits_in scene kept k pattern siblings u v found a b are adds =
    some_of (OfSome (Hits kept k siblings) found) (HitsIn scene kept k pattern siblings) u v a b adds are.earlier
    (λ m h. let g = are.part.only h.0 h.1 in (g.0, g.1, way_hit_like kept k siblings h.0 g.0 g.2 m h.2))
    (λ e m h. let g = are.all e h.0 h.1 in (g.0, g.1, way_hit_like kept k siblings h.0 g.0 g.2 m h.2))
