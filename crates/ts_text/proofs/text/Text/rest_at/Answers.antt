use Rattle.std.proofs.Common.{◌≡◌, ◌∙◌, sym, refl, ◌+◌, ◌-◌, length, true, false}
use Rattle.std.proofs.lemmas.Bool.{false≢true}
use Rattle.ts_text.proofs.PieceLemmas.{is_rest, rest_bytes, rest_nowhere, rest_on}
use Rattle.ts_text.proofs.text.Text.rest_at.Goals as goal

pub returns-then-not-is_char_boundary : goal.returns-then-not-is_char_boundary
returns-then-not-is_char_boundary c =
    let off : c.is_char_boundary.result ≡ false = c.if-not-is_char_boundary.true in
    rest_nowhere c.pieces-pieces.result.now c.args.self.now c.text-content.result.now (length c.args.self.now) c.args.place c.piece_at-at.result
    (c.args.place - c.index-pieces-at.result.start) c.index-pieces-at.result
    c.pieces-pieces.ensures.whole c.pieces-pieces.ensures.pieces c.piece_at-at.ensures c.index-pieces-at.is c.text-content.ensures refl
    (λ on. false≢true (sym off ∙ c.is_char_boundary.ensures.test.1 on))

pub rest_of-requires-2 : goal.rest_of-requires-2
rest_of-requires-2 c =
    let on : c.is_char_boundary.result ≡ true = c.if-not-is_char_boundary.false in
    is_rest c.pieces-pieces.result.now c.split_at-2.result.1.now c.text-content.result.now c.split_at.result.1.now (length c.args.self.now)
    c.piece_at-at.result (c.piece_at-at.result + 1) (c.args.place - c.index-pieces-at.result.start) c.index-pieces-at.result
    c.pieces-pieces.ensures.pieces c.piece_at-at.ensures.within c.index-pieces-at.is c.text-content.ensures
    (c.is_char_boundary.ensures.test.0 on) c.split_at.ensures.back c.split_at-2.ensures.back

pub returns : goal.returns
returns c =
    let on : c.is_char_boundary.result ≡ true = c.if-not-is_char_boundary.false in (
      c.rest_of-2.ensures
          ∙ rest_bytes c.pieces-pieces.result.now c.split_at-2.result.1.now c.args.self.now c.text-content.result.now c.split_at.result.1.now (length c.args.self.now)
          c.args.place c.piece_at-at.result (c.args.place - c.index-pieces-at.result.start) c.index-pieces-at.result
          c.pieces-pieces.ensures.whole c.pieces-pieces.ensures.pieces c.piece_at-at.ensures c.index-pieces-at.is c.text-content.ensures refl
          (c.is_char_boundary.ensures.test.0 on) c.split_at.ensures.back c.split_at-2.ensures.back,
      rest_on c.pieces-pieces.result.now c.args.self.now c.text-content.result.now (length c.args.self.now) c.args.place c.piece_at-at.result
          (c.args.place - c.index-pieces-at.result.start) c.index-pieces-at.result
          c.pieces-pieces.ensures.whole c.pieces-pieces.ensures.pieces c.piece_at-at.ensures c.index-pieces-at.is c.text-content.ensures refl
          (c.is_char_boundary.ensures.test.0 on),
    )
