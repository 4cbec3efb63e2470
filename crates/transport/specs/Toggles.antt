-- The data toggles of the two bulk endpoints.
use Rattle.packet.specs.declared.kind.DataKind.{DataKind}
use Rattle.packet.specs.declared.kind.DataKind.TheVariants.{Data0}
use Rattle.packet.specs.Kinds.{turned}
use Rattle.transport.specs.declared.blocks.DataDirection.{DataDirection}
use Rattle.transport.specs.declared.blocks.DataDirection.TheVariants.{In, Out}
use Rattle.transport.specs.declared.toggles.Toggles.{Toggles}

-- as a reset leaves them
abbrev pub both_fresh : Toggles
both_fresh = record { data_in = Data0; data_out = Data0 }

-- the toggle of one direction
abbrev pub toggle_of : DataDirection → Toggles → DataKind
toggle_of In t = t.data_in
toggle_of Out t = t.data_out

-- one of them replaced
abbrev pub toggle_set : DataDirection → DataKind → Toggles → Toggles
toggle_set In k t = record { data_in = k; data_out = t.data_out }
toggle_set Out k t = record { data_in = t.data_in; data_out = k }

-- as data in that direction that were acknowledged leave them
abbrev pub toggle_turned : DataDirection → Toggles → Toggles
toggle_turned In t = record { data_in = turned t.data_in; data_out = t.data_out }
toggle_turned Out t = record { data_in = t.data_in; data_out = turned t.data_out }

-- as the end of that endpoint's halt leaves them
abbrev pub toggle_freshened : DataDirection → Toggles → Toggles
toggle_freshened In t = record { data_in = Data0; data_out = t.data_out }
toggle_freshened Out t = record { data_in = t.data_in; data_out = Data0 }
