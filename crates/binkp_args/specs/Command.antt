-- What a command's number and argument say (FTS-1026).
use Rattle.std.specs.Prelude.{ℕ, ◌==◌, List, map, Result, Ok, if◌then◌else◌}
use Rattle.ftn_addr.specs.Address.{Address, address}
use Rattle.ftn_addr.specs.Key.{Key, key_of}
use Rattle.binkp_args.specs.Addresses.{addresses_of}
use Rattle.binkp_args.specs.File.{file_of, offered_of, wanted_of}
use Rattle.ftn_addr.specs.Outcomes.{◌>>=◌}
use Rattle.binkp_args.specs.Words.{without_end, words_of}
use Rattle.binkp_args.specs.declared.command.Command.{Command}
use Rattle.binkp_args.specs.declared.command.Command.TheVariants as code
use Rattle.binkp_args.specs.declared.fault.ArgFault.{ArgFault}

-- a command without where it lies in memory
pub data CommandText : Type 0 where
  Nul : (text : List ℕ) → CommandText
  Adr : (addresses : List Address) → CommandText
  Pwd : (text : List ℕ) → CommandText
  File : (key : Key) (offset : ℕ) → CommandText
  Accept : (text : List ℕ) → CommandText
  Eob : CommandText
  Got : (key : Key) → CommandText
  Error : (text : List ℕ) → CommandText
  Bsy : (text : List ℕ) → CommandText
  Get : (key : Key) (offset : ℕ) → CommandText
  Skip : (key : Key) → CommandText
  Other : (number : ℕ) → CommandText

abbrev pub command_text : Command → CommandText
command_text (code.Nul text) = Nul text.list
command_text (code.Adr addrs) = Adr (map address addrs.items)
command_text (code.Pwd text) = Pwd text.list
command_text (code.File key offset) = File (key_of key) offset
command_text (code.Accept text) = Accept text.list
command_text code.Eob = Eob
command_text (code.Got key) = Got (key_of key)
command_text (code.Err text) = Error text.list
command_text (code.Bsy text) = Bsy text.list
command_text (code.Get key offset) = Get (key_of key) offset
command_text (code.Skip key) = Skip (key_of key)
command_text (code.Other number) = Other number

-- a command whose argument is words
unfoldable pub worded : Address → ℕ → List (List ℕ) → Result CommandText ArgFault
worded home number words =
    if number == 1 then addresses_of home words >>= (λ addresses. Ok (Adr addresses))
    else if number == 3 then offered_of words >>= (λ place. Ok (File place.0 place.1))
    else if number == 6 then file_of words >>= (λ key. Ok (Got key))
    else if number == 9 then wanted_of words >>= (λ place. Ok (Get place.0 place.1))
    else if number == 10 then file_of words >>= (λ key. Ok (Skip key))
    else Ok (Other number)

-- a command whose argument is a text, taken whole, or none at all, or words
unfoldable pub command_of : Address → ℕ → List ℕ → Result CommandText ArgFault
command_of home number args =
    if number == 0 then Ok (Nul (without_end args))
    else if number == 2 then Ok (Pwd (without_end args))
    else if number == 4 then Ok (Accept (without_end args))
    else if number == 5 then Ok Eob
    else if number == 7 then Ok (Error (without_end args))
    else if number == 8 then Ok (Bsy (without_end args))
    else worded home number (words_of (without_end args))
