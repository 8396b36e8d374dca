-- What is before a token, as far as it decides what the token is.
use Rattle.std.specs.Prelude.{Bool, true, false, ◌||◌, if◌then◌else◌, Option, None, Some}
use Rattle.tokens.specs.declared.context.Context.{Context}
use Rattle.tokens.specs.declared.context.Context.TheVariants as context
use Rattle.tokens.specs.declared.reserved.Reserved.{Reserved}
use Rattle.tokens.specs.declared.reserved.Reserved.TheVariants as w
use Rattle.tokens.specs.declared.token.Kind.{Kind}
use Rattle.tokens.specs.declared.token.Kind.TheVariants as k
use Rattle.tokens.specs.Reserved.{same_word}

abbrev pub is_joined : Context → Bool
is_joined context.Joined = true
is_joined _ = false

abbrev pub awaits_picture : Context → Bool
awaits_picture context.AfterPicture = true
awaits_picture context.AfterPictureIs = true
awaits_picture _ = false

abbrev pub may_be_is : Context → Bool
may_be_is context.AfterPicture = true
may_be_is _ = false

abbrev pub after_reserved : Context → Reserved → Context
after_reserved before word =
    if same_word word w.Pic || same_word word w.Picture then context.AfterPicture
    else (if awaits_picture before then context.AfterPictureIs else context.Joined)

abbrev pub after_token : Context → Kind → Context
after_token before (k.Reserved word) = after_reserved before word
after_token before (k.Word text) = context.Joined
after_token before (k.Numeric literal) = context.Joined
after_token before (k.Nonnumeric text) = context.Joined
after_token before k.RightParenthesis = context.Joined
after_token before (k.Picture text) = context.Apart
after_token before k.Period = context.Apart
after_token before k.LeftParenthesis = context.Apart
after_token before k.Colon = context.Apart
after_token before (k.Operator one) = context.Apart

-- a picture is still awaited after a separator
abbrev pub after_separator : Context → Context
after_separator context.Joined = context.Apart
after_separator context.Apart = context.Apart
after_separator context.AfterPicture = context.AfterPicture
after_separator context.AfterPictureIs = context.AfterPictureIs

unfoldable pub context_after : Context → Option Kind → Context
context_after before None = after_separator before
context_after before (Some kind) = after_token before kind
