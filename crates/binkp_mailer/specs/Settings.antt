-- What the settings say of a hub (own).
use Rattle.mail_conf.specs.Conf.{ConfText}
use Rattle.node_model.specs.Node.{Settings}

-- what a hub refuses, and for how many callers it has room
abbrev pub hub_settings : ConfText → Settings
hub_settings c = record { max_servers = c.max_servers; refuse_names = c.refuse_names; refuse_over = c.refuse_over }
