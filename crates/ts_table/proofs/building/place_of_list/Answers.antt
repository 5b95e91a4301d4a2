use Rattle.std.proofs.Common.{◌≡◌, sym, subst, ℕ, slice_get, Some}
use Rattle.ts_table.proofs.SortLemmas.{same_list}
use Rattle.ts_table.proofs.building.place_of_list.Goals as goal

pub returns-in-Ok-clause-place : goal.returns-in-Ok-clause-place
returns-in-Ok-clause-place c =
    let s = c.in_ok-place.ensures.stored in
    let e : c.in-Ok.place ≡ c.in_ok-place.place = c.in-Ok.ensures.1 in
    (s.0, subst (λ (k : ℕ). slice_get c.insert_full.new.self.keys k ≡ Some s.0) (sym e) s.1, sym (same_list c.args.list s.0 s.2))
