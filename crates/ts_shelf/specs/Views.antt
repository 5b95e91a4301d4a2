-- What is kept of a pass beside what it knows, and how both change. These serve private clauses and
-- proofs alone.
use Rattle.std.specs.Prelude.{◌≡◌, ℕ, ◌+◌, ◌-◌, true, false, nat_lt, max, if◌then◌else◌, List, [], ◌∷◌, ◌++◌, None}
use Rattle.atomic_table.specs.Table.{Me}
use Rattle.ts_shelf.specs.declared.journal.Entry.{Entry}
use Rattle.ts_shelf.specs.declared.view.Knowledge.{Knowledge}
use Rattle.ts_shelf.specs.declared.view.Notes.{Notes}
use Rattle.ts_shelf.specs.declared.view.View.{View}
use Rattle.ts_shelf.specs.Passes.{first_pass}

-- a pass's view, and the journal while the pass carries it
abbrev pub Seated : Type 0 → Type 0 → Type 0 → Type 0
Seated J S I = Me J (View S I)

module _ {I : Type 0} where
  -- notes of a pass that never joined, asked or held anything, with 1 for one beside the first
  abbrev pub first_notes : ℕ → Notes I
  first_notes other = record {
    other = other;
    asked = 0;
    own_seen = [];
    other_seen = [];
    own_turn = 0;
    other_turn = 0;
    out_before = 1;
    out_after = 0;
    holds = false;
    held_turn = 0;
    held_entries = [];
    held_room = 0;
  }

module _ {S I : Type 0} where
  -- the sum over all views
  abbrev pub sum_over : (View S I → ℕ) → List (View S I) → ℕ
  sum_over f [] = 0
  sum_over f (v ∷ vs) = f v + sum_over f vs

  -- it is a pass that was not taken in by another
  abbrev pub IsLive : View S I → Type 0
  IsLive v = v.knows.first ≡ 0 → v.notes.other ≡ 0 → ⊥

  -- the first pass, which has seen nothing and taken no turn
  abbrev pub first_view : S → ℕ → View S I
  first_view opening offers = record { knows = first_pass opening offers; notes = first_notes 0 }

  -- a pass that was taken in by another
  abbrev pub spent_view : View S I
  spent_view = record {
    knows = record {
      opening = None;
      seen = [];
      taken = [];
      turn = 0;
      reached = 0;
      offers = 0;
      first = 0;
      out =
          0;
    };
    notes = first_notes 0;
  }

  -- it knows that so many turns are over
  abbrev pub told_view : View S I → ℕ → View S I
  told_view v n = record v { knows = record v.knows { reached = n } }

  -- it holds a turn, and knows with which entries and room the journal came
  abbrev pub holding : View S I → ℕ → List (Entry I) → ℕ → View S I
  holding v t came room =
      record v {
        notes =
            record v.notes { holds = true; held_turn = t; held_entries = came; held_room = room };
      }

  -- what it knows once the turn t is over: it has seen all entries, and used so many offers
  abbrev pub after_turn_known : Knowledge S I → ℕ → List (Entry I) → ℕ → Knowledge S I
  after_turn_known k t entries used =
      record k {
        seen = entries;
        taken = k.taken ++ t ∷ [];
        turn = t + 1;
        reached =
            t + 1;
        offers = k.offers - used;
      }

  -- the turn that it holds is over
  abbrev pub after_turn : View S I → List (Entry I) → ℕ → View S I
  after_turn v entries used = record {
    knows = after_turn_known v.knows v.notes.held_turn entries used;
    notes = record v.notes { holds = false };
  }

  -- the turn was given up
  abbrev pub after_give_up : View S I → View S I
  after_give_up v = record v { notes = record v.notes { holds = false } }

  -- it asks for so many offers of the next split
  abbrev pub asking : View S I → ℕ → View S I
  asking v n = record v { notes = record v.notes { asked = n } }

  -- what the first pass keeps at a split
  abbrev pub kept_part : View S I → View S I
  kept_part v =
      record v {
        knows =
            record v.knows { offers = v.knows.offers - v.notes.asked; out = v.knows.out + 1 };
      }

  -- what the other pass begins with at a split
  abbrev pub split_part : View S I → View S I
  split_part v = record {
    knows = record v.knows { taken = []; offers = v.notes.asked; first = 0; out = 0 };
    notes = first_notes 1;
  }

  -- the one of the greater turn
  abbrev pub later : Knowledge S I → Knowledge S I → Knowledge S I
  later k l = if nat_lt k.turn l.turn then l else k

  -- what the first pass knows once it has taken in another
  abbrev pub joined_known : Knowledge S I → Knowledge S I → Knowledge S I
  joined_known k l = record k {
    seen = (later k l).seen;
    turn = (later k l).turn;
    taken = k.taken ++ l.taken;
    reached = max k.reached l.reached;
    offers = k.offers + l.offers;
    out = k.out - 1;
  }

  -- its view then, which keeps what both had seen
  abbrev pub joined_view : View S I → View S I → View S I
  joined_view v w = record {
    knows = joined_known v.knows w.knows;
    notes = record v.notes {
      own_seen = v.knows.seen;
      other_seen = w.knows.seen;
      own_turn = v.knows.turn;
      other_turn = w.knows.turn;
      out_before = v.knows.out;
      out_after = v.knows.out - 1;
    };
  }

  -- the pass is between two calls: it carries nothing, holds no turn, and was not taken in by
  -- another
  abbrev pub IsIdle : {J : Type 0} → Seated J S I → Type 0
  IsIdle m = (m.1 ≡ []) × (m.0.notes.holds ≡ false) × IsLive m.0
