-- A head at which an extra is passed is no end of a run.
use Rattle.std.proofs.Common.{◌≡◌, ◌∙◌, sym, ap, subst, ℕ, List}
use Rattle.ts_base.specs.Bytes.{Bytes}
use Rattle.ts_core.specs.declared.symbol.Symbol.{Symbol}
use Rattle.spec_lexing.specs.Lexing.{token, absent}
use Rattle.spec_runs.specs.Configurations.{HasMove}
use Rattle.spec_graph.specs.declared.graph.Head.{Head}
use Rattle.spec_graph.specs.Laying.{Parsing, SeesAt}
use Rattle.spec_graph.specs.Links.{IsAt}
use Rattle.ts_graph.specs.declared.view.GraphView.{GraphView}
use Rattle.ts_table.specs.declared.view.ParseTable.{ParseTable}
use Rattle.ts_reductions.specs.Laying.{HasPassed}
use Rattle.ts_reductions.specs.Sound.{Base, parsing_from, IsSoundBy}
use Rattle.ts_places.specs.ShiftLaws.{LookLaws}
use Rattle.ts_places.specs.Looking.{StopsThere}
use Rattle.ts_places.proofs.HeadLemmas.{one_head, share_head, head_sees, move_shared}
use Rattle.ts_places.proofs.SightLemmas.{no_absent, same_token}

module _ (laws : LookLaws) (t : ParseTable) (text : Bytes) (base : Base) (g : GraphView) (sound : IsSoundBy t text base g) (h : ℕ) (p : HasPassed (parsing_from t text base) g h) where
  abbrev P : Parsing
  P = parsing_from t text base

  module _ (read : List ℕ) (place : ℕ) (at : IsAt P g.heads h read place) where
    place_is : p.from ≡ place
    place_is = sym p.at.place_is ∙ ap (λ (x : Head). x.place) (one_head g.heads h p.at.head at.head p.at.is at.is) ∙ at.place_is

    passed_at : IsAt P g.heads h p.read place
    passed_at = subst (λ (n : ℕ). IsAt P g.heads h p.read n) place_is p.at

    passed_sees : SeesAt P p.read place (token p.symbol p.pad p.size)
    passed_sees = subst (λ (n : ℕ). SeesAt P p.read n (token p.symbol p.pad p.size)) place_is p.passes.sees

    -- no move stays on the token that is seen there
    pub passed_moves : (symbol : Symbol) (pad size : ℕ) → SeesAt P read place (token symbol pad size) → HasMove t.grammar read symbol.0 → ⊥
    passed_moves symbol pad size sees move =
        let one = same_token p.symbol symbol p.pad pad p.size size (head_sees laws t text g (base, sound) h place p.read read (token p.symbol p.pad p.size) (token symbol pad size) passed_at at passed_sees sees) in
        p.passes.none (subst (λ (x : Symbol). HasMove t.grammar p.read x.0) (sym one) (move_shared laws t text g (base, sound) read p.read symbol.0 (share_head P g.heads h read p.read place place at passed_at) move))

  -- it stops nowhere
  pub passed_stops : (look stop : ℕ) → StopsThere t text g look h stop → ⊥
  passed_stops look stop s =
      no_absent p.symbol p.pad p.size s.far
      (head_sees laws t text g (base, sound) h look p.read s.read (token p.symbol p.pad p.size) (absent s.far) (passed_at s.read look s.at) s.at (passed_sees s.read look s.at) s.sees)
