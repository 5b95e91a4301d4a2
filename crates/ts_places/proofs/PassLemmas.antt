-- Places at which no head stands are passed over.
use Rattle.std.proofs.Common.{◌≡◌, refl, subst, ℕ, zero, suc, ◌+◌, ◌<◌, ◌≤◌, inl, arith}
use Rattle.ts_base.specs.Bytes.{Bytes}
use Rattle.spec_graph.specs.States.{AreRanks}
use Rattle.spec_graph.specs.Laying.{Parsing}
use Rattle.spec_graph.specs.Keys.{Key}
use Rattle.spec_graph.specs.Links.{IsWholeTo, HasNoneDue}
use Rattle.ts_graph.specs.declared.view.GraphView.{GraphView}
use Rattle.ts_table.specs.declared.view.ParseTable.{ParseTable}
use Rattle.ts_table.specs.Ranks.{unit_rank}
use Rattle.ts_reductions.specs.SoundLinks.{bare_links}
use Rattle.ts_reductions.specs.Sound.{Base, parsing_from, IsSoundBy}
use Rattle.ts_places.specs.ShiftLaws.{LeafLaws, NextLaws}
use Rattle.ts_places.specs.Looking.{IsHeadAt}
use Rattle.ts_places.specs.Passing.{first_key}
use Rattle.ts_places.proofs.GrowLemmas.{grows_none, grows_grown}

module _ (laws : LeafLaws) (next_laws : NextLaws) (t : ParseTable) (text : Bytes) (base : Base) (most : ℕ) (g : GraphView) (ranks : AreRanks t.grammar (unit_rank t.grammar) most) (sound : IsSoundBy t text base g) where
  abbrev P : Parsing
  P = parsing_from t text base

  abbrev Whole : Key → Type 0
  Whole k = IsWholeTo P (unit_rank t.grammar) g.heads (bare_links g.links) k

  module _ (look : ℕ) (empty : (h : ℕ) → IsHeadAt g look h → ⊥) where
    none : (begins i : ℕ) → HasNoneDue P (unit_rank t.grammar) g.heads (bare_links g.links) (record { look = look; begins = begins; rank = i })
    none begins i number left p h e b outer inner over now end due = empty h (due.top.head, due.top.is, due.top.place_is)

    at_start : Whole (first_key most look) → Whole (record { look = look; begins = 0; rank = most })
    at_start whole =
        next_laws.starts P sound.laid.parsed.fit sound.laid.parsed.states sound.laid.parsed.grounded (unit_rank t.grammar) most ranks g.heads (bare_links g.links) sound.laid.graph look look 0
        (subst (λ (n : ℕ). Whole (record { look = look; begins = n; rank = most })) (let e : look ≡ look + 0 = omega arith in e) whole)
        (λ b i low high few. none b i)

    at_last : Whole (first_key most look) → Whole (record { look = look; begins = 0; rank = 0 })
    at_last whole =
        next_laws.ranks P sound.laid.parsed.fit sound.laid.parsed.states sound.laid.parsed.grounded (unit_rank t.grammar) most ranks g.heads (bare_links g.links) sound.laid.graph most look 0 0
        (subst (λ (n : ℕ). Whole (record { look = look; begins = 0; rank = n })) (let e : most ≡ most + 0 = omega arith in e) (at_start whole))
        (λ i low high. none 0 i)

    one_past : Whole (first_key most look) → Whole (first_key most (suc look))
    one_past whole =
        next_laws.next_place P sound.laid.parsed.fit sound.laid.parsed.states sound.laid.parsed.grounded (unit_rank t.grammar) most ranks g.heads (bare_links g.links) g.heads (bare_links g.links)
        (record { look = look; begins = 0; rank = 0 }) (first_key most (suc look)) sound.laid.graph (at_last whole)
        (λ number left p h e b outer inner over now end due. absurd (none 0 0 number left p h e b outer inner over now end due))
        (grows_grown laws P g g (grows_none laws g))
        (record { each = λ b read from a. inl a })
        (record {
          shifts = λ b read symbol pad size at sees act. absurd (empty b (at.head, at.is, at.place_is));
          passes = λ b read symbol pad size at passes. absurd (empty b (at.head, at.is, at.place_is));
        })
        (next_laws.look most look) refl

  pub all_past : (count look : ℕ) → ((place h : ℕ) → look ≤ place → place < count + look → IsHeadAt g place h → ⊥) → Whole (first_key most look) → Whole (first_key most (count + look))
  all_past zero look empty whole = subst (λ (n : ℕ). Whole (first_key most n)) (let e : look ≡ 0 + look = omega arith in e) whole
  all_past (suc count) look empty whole =
      subst (λ (n : ℕ). Whole (first_key most n)) (let e : suc (count + look) ≡ suc count + look = omega arith in e)
      (one_past (count + look) (λ h st. empty (count + look) h (omega arith) (omega arith) st)
      (all_past count look (λ place h low high st. empty place h low (omega (arith, high)) st) whole))
