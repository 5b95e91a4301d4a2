-- What an edit changes: which examined ranges its parts meet, and where places go.
use Rattle.std.specs.Prelude.{ℕ, ◌+◌, ◌-◌, ◌≤◌, Bool, nat_lt, ◌&&◌, if◌then◌else◌, List, [], ◌∷◌, length}
use Rattle.std.specs.List.{list_any}
use Rattle.ts_base.specs.Bytes.{Bytes}
use Rattle.ts_text.specs.declared.edit.Edit.{Edit}
use Rattle.ts_text.specs.declared.edit.Part.{Part}
use Rattle.ts_text.specs.Text.{IsText}
use Rattle.ts_text.specs.Edit.{InRange, Fits}

-- A part meets so many bytes from a place on: it begins before they end, and ends after they begin.
-- So what is put right before them or right behind them does not meet them.
abbrev pub is_met_by : ℕ → ℕ → Part → Bool
is_met_by place extent part = nat_lt part.start (place + extent) && nat_lt place part.end

-- some part does
abbrev pub is_met : List Part → ℕ → ℕ → Bool
is_met parts place extent = list_any (is_met_by place extent) parts

-- How many bytes the new text has between what became of a place and of a later one. All that a
-- part puts in stands before each place from its start on, and what it takes out is nowhere.
abbrev pub moved_from : ℕ → List Part → ℕ → ℕ
moved_from from [] place = place - from
moved_from from (p ∷ ps) place =
    if nat_lt place p.start
    then place - from
    else (p.start - from) + (length p.new + moved_from p.end ps place)

-- Where a place of the old text is in the new one. The parts' places are all those of the old text,
-- so that each part moves all that stands behind it.
abbrev pub moved : Edit → ℕ → ℕ
moved edit place = moved_from 0 edit.parts place

-- the edit is one of a text that has at least so many bytes, and the new text is no longer than a
-- text may be
pub record IsEditOver (span : ℕ) (edit : Edit) : Type 0 where
  pub text : Bytes
  pub is_text : IsText text
  pub long : span ≤ length text
  pub in_range : InRange text edit
  pub fits : Fits text edit
