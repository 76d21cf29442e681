use Rattle.values.proofs.Listing.{listed-first}
use Rattle.values.proofs.bins.listed.Goals as goal

pub returns : goal.returns
returns c =
    let a = c.args in
    listed-first a.t.now a.a a.r a.n a.p a.v c.first_listing.result c.first_listing.ensures
