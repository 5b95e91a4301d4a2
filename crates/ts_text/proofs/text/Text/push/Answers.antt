use Rattle.std.proofs.Common.{◌≡◌, ◌∙◌, ap, refl, ℕ, ◌+◌, ◌≤◌, length, arith}
use Rattle.ts_base.specs.Bytes.{Bytes}
use Rattle.ts_text.specs.Pieces.{bytes_of}
use Rattle.ts_text.specs.Text.{most_bytes}
use Rattle.ts_text.proofs.PieceLemmas.{pushed}
use Rattle.ts_text.proofs.text.Text.push.Goals as goal

pub invariant_of-self-2 : goal.invariant_of-self-2
invariant_of-self-2 c =
    let count : c.len-len.result ≡ length c.args.content = c.len-len.ensures ∙ ap (λ (bytes : Bytes). length bytes) c.get.ensures in
    let same : length (bytes_of c.self.inside.pieces.items) ≡ length c.args.self.now = ap (λ (bytes : Bytes). length bytes) c.self.view_is in
    let whole : c.self.inside.len ≡ length (bytes_of c.self.inside.pieces.items) = c.self.invariant.whole in
    let fits : length c.args.self.now + length c.args.content ≤ most_bytes = c.requires.fits in
    pushed c.self.inside.pieces.items c.push.new.self.items c.self.inside.len (c.self.inside.len + c.len-len.result) (record { start = c.self.inside.len; content = c.args.content })
    c.self.invariant c.in_ok-push.ensures.items refl c.requires.some c.requires.utf8 (ap (λ (n : ℕ). c.self.inside.len + n) count) (omega arith)
