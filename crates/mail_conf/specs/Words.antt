-- The words that begin a line, with the case of letters ignored (own, after binkd's).
use Rattle.std.specs.Prelude.{ℕ, Bool, ◌||◌, List, codes, Option, Some, None, if◌then◌else◌}
use Rattle.ftn_addr.specs.Case.{same_word}
use Rattle.mail_conf.specs.declared.words.TextWord.{TextWord}
use Rattle.mail_conf.specs.declared.words.TextWord.TheVariants.{Sysname, Sysop, Location, Nodeinfo}
use Rattle.mail_conf.specs.declared.words.PathWord.{PathWord}
use Rattle.mail_conf.specs.declared.words.PathWord.TheVariants.{Inbound, InboundNonsecure}
use Rattle.mail_conf.specs.declared.words.NumberWord.{NumberWord}
use Rattle.mail_conf.specs.declared.words.NumberWord.TheVariants.{Port, MaxServers, MaxClients, Block, RefuseOver, SessionLimit}
use Rattle.mail_conf.specs.declared.words.ListWord.{ListWord}
use Rattle.mail_conf.specs.declared.words.ListWord.TheVariants.{Domain, Address, Node, RefuseName, RequestFolder}

abbrev pub text_word : List ℕ → Option TextWord
text_word word =
    if same_word word (codes "sysname") then Some Sysname
    else if same_word word (codes "sysop") then Some Sysop
    else if same_word word (codes "location") then Some Location
    else if same_word word (codes "nodeinfo") then Some Nodeinfo
    else None

abbrev pub path_word : List ℕ → Option PathWord
path_word word =
    if same_word word (codes "inbound") then Some Inbound
    else if same_word word (codes "inbound-nonsecure") then Some InboundNonsecure
    else None

abbrev pub number_word : List ℕ → Option NumberWord
number_word word =
    if same_word word (codes "iport") then Some Port
    else if same_word word (codes "maxservers") then Some MaxServers
    else if same_word word (codes "maxclients") then Some MaxClients
    else if same_word word (codes "oblksize") then Some Block
    else if same_word word (codes "refuse-over") then Some RefuseOver
    else if same_word word (codes "session-limit") then Some SessionLimit
    else None

abbrev pub list_word : List ℕ → Option ListWord
list_word word =
    if same_word word (codes "domain") then Some Domain
    else if same_word word (codes "address") then Some Address
    else if same_word word (codes "node") then Some Node
    else if same_word word (codes "refuse-name") then Some RefuseName
    else if same_word word (codes "request-folder") then Some RequestFolder
    else None

abbrev pub is_for_the_log : List ℕ → Bool
is_for_the_log word =
    same_word word (codes "log") || same_word word (codes "loglevel") || same_word word (codes "conlog") || same_word word (codes "percents") || same_word word (codes "printq") || same_word word (codes "backresolv")

abbrev pub is_for_calls : List ℕ → Bool
is_for_calls word =
    same_word word (codes "rescan-delay") || same_word word (codes "call-delay") || same_word word (codes "timeout") || same_word word (codes "try") || same_word word (codes "hold") || same_word word (codes "send-if-pwd")

abbrev pub is_for_files : List ℕ → Bool
is_for_files word =
    same_word word (codes "pid-file") || same_word word (codes "exec") || same_word word (codes "flag") || same_word word (codes "minfree") || same_word word (codes "kill-dup-partial-files") || same_word word (codes "kill-old-partial-files")

-- a word of binkd's that sets nothing here
abbrev pub is_passed_over : List ℕ → Bool
is_passed_over word = is_for_the_log word || is_for_calls word || is_for_files word
