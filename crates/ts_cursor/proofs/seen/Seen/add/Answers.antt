use Rattle.std.proofs.Common.{rules, ◌≡◌, ◌∙◌, ◌∷◌, ◌++◌, [], List, length, ap, sym, subst, vec_len}
use Rattle.std.specs.Option.{option_to_list}
use Rattle.spec_trees.specs.declared.visible.VisibleNode.{VisibleNode}
use Rattle.ts_cursor.specs.declared.seen.Face.{Face}
use Rattle.ts_cursor.specs.Pooled.{seen_with, AreWithin}
use Rattle.ts_cursor.proofs.PoolLemmas.{within_more, within_added, seen_added}
use Rattle.ts_cursor.proofs.seen.Seen.add.Goals as goal
use Rattle.ts_cursor.proofs.seen.Seen.add.Goals.{In_ok-push}

pub invariant_of-self : goal.invariant_of-self
invariant_of-self c =
    within_more (length c.self.inside.pool.items) (length c.put_fields.new.pool.items) c.self.inside.faces.items c.put_fields.ensures.grows c.self.invariant

pub invariant_of-self-in_err-push : goal.invariant_of-self-in_err-push
invariant_of-self-in_err-push c =
    subst (λ (vs : List Face). AreWithin (length c.put_fields.new.pool.items) vs) (sym c.in_err-push.ensures.items)
    (within_more (length c.self.inside.pool.items) (length c.put_fields.new.pool.items) c.self.inside.faces.items c.put_fields.ensures.grows c.self.invariant)

-- the node as it is kept
abbrev kept : In_ok-push → Face
kept c = record { name = c.args.face.name; first = c.len-first.result; start = c.args.face.start; end = c.args.face.end; depth = c.args.face.depth; count = c.in_ok-count.count; named = c.args.face.named }

first : (c : In_ok-push) → c.len-first.result ≡ length c.self.inside.pool.items
first c =
    let n : vec_len c.self.inside.pool ≡ length c.self.inside.pool.items = search rules in
    c.len-first.ensures ∙ n

pub invariant_of-self-2 : goal.invariant_of-self-2
invariant_of-self-2 c =
    let d : In_ok-push = (goal.at.invariant_of-self-2 c).In_ok-push in
    within_added c.self.inside.pool.items (c.args.fields.now ++ option_to_list c.args.more) c.put_fields.new.pool.items c.self.inside.faces.items c.push.new.self.items (kept d) c.self.invariant
    c.in_ok-count.ensures.pool c.in_ok-push.ensures.items (first d) c.in_ok-count.ensures.count

pub returns : goal.returns
returns c =
    let d : In_ok-push = (goal.at.returns c).In_ok-push in
    seen_added c.self.inside.pool.items (c.args.fields.now ++ option_to_list c.args.more) c.put_fields.new.pool.items c.self.inside.faces.items c.push.new.self.items (kept d) c.self.invariant
    c.in_ok-count.ensures.pool c.in_ok-push.ensures.items (first d) c.in_ok-count.ensures.count
    ∙ ap (λ (ns : List VisibleNode). ns ++ seen_with (c.args.fields.now ++ option_to_list c.args.more) c.args.face ∷ []) c.self.view_is
