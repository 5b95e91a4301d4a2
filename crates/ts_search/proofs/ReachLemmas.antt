-- How far the runs of an item go.
use Rattle.std.proofs.Common.{◌≡◌, ℕ, ◌+◌, ◌-◌, ◌<◌, ◌≤◌, ◌⊎◌, inl, inr, ⊎_elim, length, true, arith}
use Rattle.std.proofs.lemmas.Bool.{cases_lt}
use Rattle.ts_search.specs.declared.stand.Stand.{Stand}
use Rattle.ts_search.specs.declared.stand.Siblings.{Siblings}
use Rattle.spec_matches.specs.Embedding.{Covers, IsItemRun, Rounds}
use Rattle.ts_search.specs.Table.{Takes}
use Rattle.ts_search.specs.Steps.{GoesOn, Reaches}
use Rattle.ts_search.proofs.RunLemmas.{covers_more}

-- what the loop keeps
pub record Reaching (s : Siblings) (at : Stand) (first end : ℕ) : Type 0 where
  pub low : first ≤ end
  pub inside : (end ≡ first) ⊎ (end ≤ length s.named)
  pub size : (at.slot.many ≡ true) ⊎ (end ≤ first + (at.slot.more + 1))
  pub covers : Covers (Takes s.table) at.number at.slot (record { first = first; past = end })

module _ (s : Siblings) (at : Stand) (first : ℕ) where
  pub reach_more : (end : ℕ) → GoesOn s at first end → Reaching s at first end → Reaching s at first (end + 1)
  reach_more end on before = record {
    low = let l = before.low in omega arith;
    inside = inr (let b = on.0 in omega arith);
    size = ⊎_elim (λ m. inl m) (λ e. inr (omega (arith, e))) on.1;
    covers = covers_more (Takes s.table) at.number at.slot first end before.covers (on.2, on.3);
  }

  pub reaches : (end : ℕ) → (GoesOn s at first end → ⊥) → Reaching s at first end → Reaches s at first end
  reaches end stops r past = (to, from)
    where
      room : Rounds at.slot (past - first) → first ≤ end → end < past → (at.slot.many ≡ true) ⊎ (end < first + (at.slot.more + 1))
      room (whole, inl m) low lt = inl m
      room (whole, inr e) low lt = inr (omega (arith, e))

      to : IsItemRun (Takes s.table) (length s.named) at.slot at.number (record { first = first; past = past }) → (first < past) × (past ≤ end) × Rounds at.slot (past - first)
      to f = (
        f.some,
        ⊎_elim
            (λ lt. absurd (stops ((let inside = f.inside in omega arith), room f.rounds r.low lt, (f.covers end r.low lt).0, (f.covers end r.low lt).1)))
            (λ le. le) (cases_lt end past),
        f.rounds,
      )

      inside_of : first < past → past ≤ end → (end ≡ first) ⊎ (end ≤ length s.named) → past ≤ length s.named
      inside_of a b (inl e) = absurd (omega arith)
      inside_of a b (inr e) = omega arith

      from : (first < past) × (past ≤ end) × Rounds at.slot (past - first) → IsItemRun (Takes s.table) (length s.named) at.slot at.number (record { first = first; past = past })
      from h = record {
        some = h.0;
        inside = inside_of h.0 h.1 r.inside;
        rounds = h.2;
        covers = λ p low below. r.covers p low (let b = h.1 in omega arith);
      }
