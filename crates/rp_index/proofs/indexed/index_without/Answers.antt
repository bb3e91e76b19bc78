use Rattle.std.proofs.Common.{◌≡◌, ℕ, sym, subst}
use Rattle.rp_rows.specs.Instances.{dropped}
use Rattle.rp_index.specs.Index.{Covers}
use Rattle.rp_index.proofs.Covering.{still, named}
use Rattle.rp_index.proofs.indexed.index_without.Goals as goal

pub returns-in-Some : goal.returns-in-Some
returns-in-Some c = λ links covers.
    let is = c.args.instances.now in
    let i = c.in-Some.instance.now in
    let same : i.name ≡ c.args.name = named c.args.name is i (sym c.in-Some.ensures) in
    subst (λ (n : ℕ). Covers c.remove.new.self (dropped n is) links) same (c.remove.ensures is links covers)

pub returns-in-None : goal.returns-in-None
returns-in-None c = λ links covers. still c.args.name c.args.index c.args.instances.now links covers
