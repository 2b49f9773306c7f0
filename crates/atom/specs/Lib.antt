pub mod Prefix
pub mod Write
pub mod Parse
pub mod PrefixLaws
pub mod WriteLaws
pub mod ParseLaws
pub mod RoundTrip
