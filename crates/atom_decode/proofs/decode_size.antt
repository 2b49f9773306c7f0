mod LeadingOnes
mod Decoding
