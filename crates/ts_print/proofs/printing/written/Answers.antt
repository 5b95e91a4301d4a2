use Rattle.std.proofs.Common.{◌++◌, ap, sym, subst, ◌∙◌, List, ℕ}
use Rattle.std.specs.Str.{IsUtf8}
use Rattle.json.specs.Print.{print}
use Rattle.ts_print.proofs.printing.written.Goals as goal

pub unreachable-requires : goal.unreachable-requires
unreachable-requires c =
    let whole = c.into_inner.ensures.items ∙ ap (λ (bs : List ℕ). bs ++ print c.args.out.tokens) c.requires in
    let ok = c.from_utf8.ensures.succeeds (subst IsUtf8 (sym whole) c.into_inner.ensures.utf8) in
    cc (rw c.in_default.is at ok)
