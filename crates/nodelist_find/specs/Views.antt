-- What is left and addresses, without where they lie in memory.
use Rattle.nodelist_find.specs.Cursor.{Left, Span}
use Rattle.nodelist_find.specs.Nodes.{Bounds, SpotAt}
use Rattle.nodelist_find.specs.declared.cursor.Cursor.{Cursor}
use Rattle.nodelist_find.specs.declared.cursor.Span.{Span as SpanCode}
use Rattle.nodelist_find.specs.declared.nodes.Bounds.{Bounds as BoundsCode}
use Rattle.nodelist_find.specs.declared.nodes.Spot.{Spot}

abbrev pub seen : Cursor → Left
seen cursor = record { place = cursor.place; rest = cursor.rest.now }

abbrev pub spot : Spot → SpotAt
spot s = record { zone = s.zone; net = s.net; node = s.node }

abbrev pub span_of : SpanCode → Span
span_of s = record { low = s.low; high = s.high }

abbrev pub bounds : BoundsCode → Bounds
bounds b = record { low = spot b.low; high = spot b.high }
