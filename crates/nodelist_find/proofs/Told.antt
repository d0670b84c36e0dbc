-- How a node with a host of its own is reached.
use Rattle.std.proofs.Common.{◌≡◌, ℕ, eqb, false, List, length, Option, refl}
use Rattle.nodelist_comp.specs.declared.node.NodeKind.{NodeKind}
use Rattle.nodelist_comp.specs.declared.node.NodeKind.TheVariants.{Zone, Region, Host, Hub, Pvt, Hold, Down, Plain}
use Rattle.nodelist_find.specs.Route.{told}

-- the host of its net doesn't count
pub own_host : (i : ℕ) (kind : NodeKind) (host : List ℕ) (net other : Option ℕ) → eqb (length host) 0 ≡ false → told i kind host net ≡ told i kind host other
own_host i Zone host net other own = rw own refl
own_host i Region host net other own = rw own refl
own_host i Host host net other own = rw own refl
own_host i Hub host net other own = rw own refl
own_host i Pvt host net other own = rw own refl
own_host i Hold host net other own = refl
own_host i Down host net other own = refl
own_host i Plain host net other own = rw own refl
